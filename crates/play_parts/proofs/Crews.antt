-- The workers, one after the other.
use Rattle.std.proofs.Common.{◌≡◌, ℕ, ◌+◌, ◌<◌, ◌≤◌, List, [], ◌∷◌, ◌++◌, Contains, Some, None, refl, ap, sym, subst, ◌∙◌, arith, append-nil, append_assoc, inl, inr}
use Rattle.std.proofs.lemmas.List.Elements.{recursion_from_All, All-contains, Contains-append_cases, Contains-push_cases}
use Rattle.std.proofs.lemmas.List.Sums.{sum_by-cons}
use mathlib.Core.List.{IsPrefix}
use Rattle.eme_types.specs.declared.media.Media.{Media}
use Rattle.eme_types.specs.declared.entry.Entry.{Entry}
use Rattle.eme_types.specs.declared.entry.Entry.TheVariants.{Claim, GiveUp}
use Rattle.script_lang.specs.declared.script.Line.{Line}
use Rattle.book_lock.specs.Places.{times}
use Rattle.book_lock.proofs.Counts.{times-append}
use Rattle.book_lock.proofs.Fronts.{prefix_self}
use Rattle.decrypt_workers.specs.Desks.{Placed}
use Rattle.decrypt_workers.specs.Workers.{IsOfWorker, IsAnyClaim, gives_up, given_up, Worked, WorksTo}
use Rattle.decrypt_workers.specs.declared.worker.WorkEnd.{WorkEnd}
use Rattle.decrypt_workers.specs.declared.worker.WorkEnd.TheVariants.{Over, OutOfMemory}
use Rattle.decrypt_workers.proofs.Works.{prefix_trans}
use Rattle.shared_cdm.specs.Own.{own_in, AreSeen}
use Rattle.shared_cdm.proofs.Own.{own_later, own_beyond}
use Rattle.shared_cdm.proofs.Parts.{own_all}
use Rattle.play_parts.specs.Parts.{LanesOver}
use Rattle.play_parts.specs.Crew.{IsOfCrew, IsClaimOf, CrewIn}
use Rattle.play_parts.specs.Whole.{TeamOver}
use Rattle.play_parts.proofs.Reading.{all_mapped, all_contains, nothing_in, only_in}
use Rattle.play_parts.proofs.Steps.{ended_none}
use Rattle.play_parts.proofs.Joined.{own_same, own_left, own_right, own_either}

-- ---- what one worker has added

-- these entries are a worker's, and they give up at most one claim
record WorkedOnce (k : ℕ) (news : Placed) : Type 0 where
  worked : Worked k news
  once : (q r place other : ℕ) → Contains news (q, GiveUp place) → Contains news (r, GiveUp other) → q ≡ r

-- where none is given up, none is
no_give_up : (news : Placed) (q place : ℕ) → given_up news ≡ 0 → Contains news (q, GiveUp place) → ⊥
no_give_up [] q place none h = nothing_in (q, GiveUp place) h
no_give_up (x ∷ news) q place none h =
    let sum : given_up (x ∷ news) ≡ gives_up x.1 + given_up news = sum_by-cons (λ (y : ℕ × Entry). gives_up y.1) x news in
    elim (Contains-append_cases (x ∷ []) news (q, GiveUp place) h) [
      | inl here ↦ (let one : gives_up x.1 ≡ 1 = ap (λ (y : ℕ × Entry). gives_up y.1) (only_in x (q, GiveUp place) here) in absurd (omega (arith, sum, none, one)))
      | inr there ↦ no_give_up news q place (omega (arith, sum, none)) there
    ]

give_up_last : (news : Placed) (last : ℕ) (claim q place : ℕ) → given_up news ≡ 0 → Contains (news ++ (last, GiveUp claim) ∷ []) (q, GiveUp place) → q ≡ last
give_up_last news last claim q place none h =
    elim (Contains-push_cases news (last, GiveUp claim) (q, GiveUp place) h) [
      | inl there ↦ absurd (no_give_up news q place none there)
      | inr is ↦ sym (ap (λ (y : ℕ × Entry). y.0) is)
    ]

-- what a worker has added, however it has ended
did : {O S : Type 0} (k : ℕ) (s : List Entry) (o : Placed) (s' : List Entry) (o' : Placed) (end : WorkEnd O S) → WorksTo k s o s' o' end → (news : Placed) × (o' ≡ o ++ news) × WorkedOnce k news
did k s o s' o' (Over x) w = (w.news, w.own, record { worked = w.worked; once = λ q r place other h g. absurd (no_give_up w.news q place w.none h) })
did k s o s' o' (OutOfMemory (Some x)) w = (w.news, w.own, record { worked = w.worked; once = λ q r place other h g. absurd (no_give_up w.news q place w.none h) })
did k s o s' o' (OutOfMemory None) w = (
  w.news ++ (w.place, GiveUp w.claim) ∷ [],
  w.own,
  record {
    worked = w.worked;
    once = λ q r place other h g. give_up_last w.news w.place w.claim q place w.none h ∙ sym (give_up_last w.news w.place w.claim r other w.none g);
  },
)

pub none_own : (own : List ℕ) (s : List Entry) → own ≡ [] → own_in own s ≡ []
none_own own s none = own_beyond 1 own s (λ p le. ap (times p) none)

-- from a pass with no own entry
did_all : {O S : Type 0} (k : ℕ) (given own : List ℕ) (s s' : List Entry) (end : WorkEnd O S) → given ≡ [] → WorksTo k s (own_in given s) s' (own_in own s') end → WorkedOnce k (own_in own s')
did_all k given own s s' end none w =
    let d = did k s (own_in given s) s' (own_in own s') end w in
    subst (WorkedOnce k) (sym (d.1 ∙ ap (λ (z : Placed). z ++ d.0) (none_own given s none))) d.2

-- ---- the crew

of_crew : (k : ℕ) (e : Entry) → 1 ≤ k → IsOfWorker k e → IsOfCrew k e
of_crew k (Claim worker track index session kid) one h = (omega (arith, one, h), omega (arith, h))
of_crew k e one h = h

more_crew : (j k : ℕ) (e : Entry) → j ≤ k → IsOfCrew j e → IsOfCrew k e
more_crew j k (Claim worker track index session kid) le h = (h.0, omega (arith, h.1, le))
more_crew j k e le h = h

crew_none : CrewIn 0 []
crew_none = record {
  kinds = tt;
  ended = ended_none;
  theirs = λ q place h. absurd (nothing_in (q, GiveUp place) h);
  few = λ worker q r place other h c g d. absurd (nothing_in (q, GiveUp place) h);
}

-- a claim that a worker gives up is the worker's
claim_of : (k : ℕ) (news : Placed) (q place : ℕ) → Worked k news → Contains news (q, GiveUp place) → IsClaimOf k news place
claim_of k news q place w h =
    let r = w.theirs q (GiveUp place) place h refl in go r.0 r.1 r.2 (All-contains (λ (x : ℕ × Entry). IsOfWorker k x.1) news (place, r.0) w.kinds r.1)
  where
    go : (e : Entry) → Contains news (place, e) → IsAnyClaim e → IsOfWorker k e → IsClaimOf k news place
    go (Claim worker track index session kid) h c is = (track, index, session, kid, subst (λ (n : ℕ). Contains news (place, Claim n track index session kid)) is h)
    go e h c is = absurd c

-- a place has a claim of one worker
same_worker : (own more : List ℕ) (u : List Entry) (v w place : ℕ) → IsClaimOf v (own_in own u) place → IsClaimOf w (own_in more u) place → v ≡ w
same_worker own more u v w place f g =
    let same : Claim v f.0 f.1 f.2 f.3 ≡ Claim w g.0 g.1 g.2 g.3 = own_same own more u place (Claim v f.0 f.1 f.2 f.3) (Claim w g.0 g.1 g.2 g.3) f.4 g.4 in cc

claim_left : (a b : List ℕ) (u : List Entry) (worker place : ℕ) → IsClaimOf worker (own_in a u) place → IsClaimOf worker (own_in (a ++ b) u) place
claim_left a b u worker place f = (f.0, f.1, f.2, f.3, own_left a b u place (Claim worker f.0 f.1 f.2 f.3) f.4)

claim_right : (a b : List ℕ) (u : List Entry) (worker place : ℕ) → IsClaimOf worker (own_in b u) place → IsClaimOf worker (own_in (a ++ b) u) place
claim_right a b u worker place f = (f.0, f.1, f.2, f.3, own_right a b u place (Claim worker f.0 f.1 f.2 f.3) f.4)

-- one worker more: k's pass owns the places b, and the others those in a
module _ (k j : ℕ) (a b : List ℕ) (u : List Entry) (next : k ≡ j + 1) (c : CrewIn j (own_in a u)) (w : WorkedOnce k (own_in b u)) where
  -- a claim that one of the others gives up is not worker k's
  of_others : (worker q place : ℕ) → Contains (own_in a u) (q, GiveUp place) → IsClaimOf worker (own_in (a ++ b) u) place → IsClaimOf worker (own_in a u) place × (worker ≤ j)
  of_others worker q place h claim =
      let r = c.theirs q place h in
      let same : r.0 ≡ worker = same_worker a (a ++ b) u r.0 worker place r.1 claim in
      let theirs : IsClaimOf worker (own_in a u) place = subst (λ (n : ℕ). IsClaimOf n (own_in a u) place) same r.1 in
      let one : IsOfCrew j (Claim worker theirs.0 theirs.1 theirs.2 theirs.3) = all_contains (λ (x : ℕ × Entry). IsOfCrew j x.1) (own_in a u) (place, Claim worker theirs.0 theirs.1 theirs.2 theirs.3) c.kinds theirs.4 in
      (theirs, one.1)

  of_last : (worker q place : ℕ) → Contains (own_in b u) (q, GiveUp place) → IsClaimOf worker (own_in (a ++ b) u) place → worker ≡ k
  of_last worker q place h claim = same_worker (a ++ b) b u worker k place claim (claim_of k (own_in b u) q place w.worked h)

  crew_more : CrewIn k (own_in (a ++ b) u)
  crew_more = record {
    kinds = own_all (λ (x : ℕ × Entry). IsOfCrew k x.1) a b 1 u
        (all_mapped (λ (x : ℕ × Entry). IsOfCrew j x.1) (λ (x : ℕ × Entry). IsOfCrew k x.1) (λ x h. more_crew j k x.1 (omega (arith, next)) h) (own_in a u) c.kinds)
        (all_mapped (λ (x : ℕ × Entry). IsOfWorker k x.1) (λ (x : ℕ × Entry). IsOfCrew k x.1) (λ x h. of_crew k x.1 (omega (arith, next)) h) (own_in b u) (recursion_from_All (λ (x : ℕ × Entry). IsOfWorker k x.1) (own_in b u) w.worked.kinds));
    ended = λ p e h claim. elim (own_either a b u p e h) [
      | inl l ↦ (let r = c.ended p e l claim in (r.0, r.1, own_left a b u r.0 r.1 r.2, r.3))
      | inr l ↦ (let r = w.worked.ended p e l claim in (r.0, r.1, own_right a b u r.0 r.1 r.2, r.3))
    ];
    theirs = λ q place h. elim (own_either a b u q (GiveUp place) h) [
      | inl l ↦ (let r = c.theirs q place l in (r.0, claim_left a b u r.0 place r.1))
      | inr l ↦ (k, claim_right a b u k place (claim_of k (own_in b u) q place w.worked l))
    ];
    few = λ worker q r place other h f g d. elim (own_either a b u q (GiveUp place) h) [
      | inl l ↦ elim (own_either a b u r (GiveUp other) g) [
        | inl m ↦ c.few worker q r place other l (of_others worker q place l f).0 m (of_others worker r other m d).0
        | inr m ↦ absurd (omega (arith, next, (of_others worker q place l f).1, of_last worker r other m d))
      ]
      | inr l ↦ elim (own_either a b u r (GiveUp other) g) [
        | inl m ↦ absurd (omega (arith, next, (of_others worker r other m d).1, of_last worker q place l f))
        | inr m ↦ w.once q r place other l m
      ]
    ];
  }

-- what worker k has added from a pass with no own entry, and where its pass was joined into another: its list, its places, what it had seen
pub record Joins {O S : Type 0} (k : ℕ) (end : WorkEnd O S) (before : List ℕ) (was : List Entry) (theirs : List ℕ) (had : List Entry) (own : List ℕ) (seen : List Entry) : Type 0 where
  pub given : List ℕ
  pub first : List Entry
  pub none : given ≡ []
  pub works : WorksTo k first (own_in given first) had (own_in theirs had) end
  pub below : AreSeen before was
  pub below_theirs : AreSeen theirs had
  pub is : own ≡ before ++ theirs
  pub later : IsPrefix was seen
  pub later_theirs : IsPrefix had seen

-- no worker
pub team_none : (script : List Line) (media : Media) (own : List ℕ) (seen : List Entry) → AreSeen own seen → LanesOver script media (own_in own seen) seen → TeamOver script media 0 own seen
team_none script media own seen below over = record {
  mine = own;
  theirs = [];
  is = sym (append-nil own);
  before = seen;
  later = prefix_self seen;
  below = below;
  lanes = over;
  crew = subst (CrewIn 0) (sym (none_own [] seen refl)) crew_none;
}

part_seen : (mine theirs own : List ℕ) (s : List Entry) → own ≡ mine ++ theirs → AreSeen own s → AreSeen theirs s
part_seen mine theirs own s is below p h = below p (subst (λ (z : List ℕ). 0 < times p z) (sym is) (omega (arith, times-append p mine theirs, h)))

-- one worker more is joined
pub team_more : {O S : Type 0} (script : List Line) (media : Media) (k j : ℕ) (end : WorkEnd O S) (before theirs own : List ℕ) (was had seen : List Entry) → k ≡ j + 1 → Joins k end before was theirs had own seen → TeamOver script media j before was → TeamOver script media k own seen
team_more script media k j end before theirs own was had seen next joined team =
    let old : own_in team.theirs seen ≡ own_in team.theirs was = own_later team.theirs was seen (part_seen team.mine team.theirs before was team.is joined.below) joined.later in
    let new : own_in theirs seen ≡ own_in theirs had = own_later theirs had seen joined.below_theirs joined.later_theirs in
    record {
      mine = team.mine;
      theirs = team.theirs ++ theirs;
      is = joined.is ∙ (ap (λ (z : List ℕ). z ++ theirs) team.is ∙ append_assoc team.mine team.theirs theirs);
      before = team.before;
      later = prefix_trans team.before was seen team.later joined.later;
      below = team.below;
      lanes = team.lanes;
      crew = crew_more k j team.theirs theirs seen next (subst (CrewIn j) (sym old) team.crew) (subst (WorkedOnce k) (sym new) (did_all k joined.given theirs joined.first had end joined.none joined.works));
    }
