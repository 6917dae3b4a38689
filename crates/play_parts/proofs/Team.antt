-- Each entry of the history is one of the lanes' or one of the workers'.
use Rattle.std.proofs.Common.{zero, suc, ◌≡◌, ℕ, ◌+◌, ◌<◌, ◌≤◌, ◌⊎◌, List, [], ◌∷◌, ◌++◌, Contains, Some, length, refl, ap, sym, subst, ◌∙◌, arith, inl, inr}
use Rattle.std.specs.Prelude.{slice_get}
use Rattle.std.specs.List.{flat_map, AllByRecursion}
use Rattle.std.proofs.lemmas.List.{length-map}
use Rattle.std.proofs.lemmas.Option.{slice_get_within}
use Rattle.eme_types.specs.declared.media.Media.{Media}
use Rattle.eme_types.specs.declared.entry.Entry.{Entry}
use Rattle.script_lang.specs.declared.script.Line.{Line}
use Rattle.book_lock.specs.Places.{times}
use Rattle.decrypt_workers.specs.Desks.{Placed}
use Rattle.shared_cdm.specs.Own.{own_from, own_in, entries}
use Rattle.shared_cdm.proofs.Own.{own_later, zero_or}
use Rattle.shared_cdm.proofs.Parts.{own_here, own_not_here, own_flat}
use Rattle.shared_cdm.proofs.Held.{own_contains, own_stands}
use Rattle.play_parts.specs.Asks.{IsOfLanes}
use Rattle.play_parts.specs.Parts.{AreEnded, IsOfLane0}
use Rattle.play_parts.specs.Crew.{IsOfCrew}
use Rattle.play_parts.specs.Whole.{TeamOver}
use Rattle.play_parts.proofs.Reading.{all_mapped, all_append, all_placed, all_contains, flat_both}
use Rattle.play_parts.proofs.Steps.{ended_both}
use Rattle.play_parts.proofs.Lanes.{of_lanes}
use Rattle.play_parts.proofs.Joined.{own_either}

-- ---- who owns each entry owns each place

few_own : (place : ℕ) (own : List ℕ) (s : List Entry) → length (own_from place own s) ≤ length s
few_own place own [] = omega arith
few_own place own (e ∷ es) =
    let rest : length (own_from (place + 1) own es) ≤ length es = few_own (place + 1) own es in
    elim (zero_or (times place own)) [
      | inl none ↦ (let same = ap length (own_not_here place own e es none) in omega (arith, same, rest))
      | inr some ↦ (let same = ap length (own_here place own e es some) in omega (arith, same, rest))
    ]

all_owned : (place : ℕ) (own : List ℕ) (s : List Entry) (n : ℕ) → length s ≤ length (own_from place own s) → n < length s → 0 < times (place + n) own
all_owned place own [] n all lt = absurd (omega (arith, lt))
all_owned place own (e ∷ es) n all lt =
    let rest : length (own_from (place + 1) own es) ≤ length es = few_own (place + 1) own es in
    elim (zero_or (times place own)) [
      | inl none ↦ (let same = ap length (own_not_here place own e es none) in absurd (omega (arith, same, rest, all)))
      | inr some ↦ (let same = ap length (own_here place own e es some) in at n lt some (λ m few. all_owned (place + 1) own es m (omega (arith, same, all)) few))
    ]
  where
    at : (m : ℕ) → m < length (e ∷ es) → 0 < times place own → ((i : ℕ) → i < length es → 0 < times (place + 1 + i) own) → 0 < times (place + m) own
    at zero lt some more = subst (λ (p : ℕ). 0 < times p own) (let same : place ≡ place + 0 = omega arith in same) some
    at (suc m) lt some more = subst (λ (p : ℕ). 0 < times p own) (let same : place + 1 + m ≡ place + suc m = omega arith in same) (more m (omega (arith, lt)))

own_entry : (own : List ℕ) (h : List Entry) (n : ℕ) (e : Entry) → entries (own_in own h) ≡ h → slice_get h n ≡ Some e → Contains (own_in own h) (1 + n, e)
own_entry own h n e whole at =
    let same : length h ≡ length (own_in own h) = sym (ap length whole) ∙ length-map (own_in own h) (λ (x : ℕ × Entry). x.1) in
    own_contains 1 own h n e at (all_owned 1 own h n (omega (arith, same)) (slice_get_within h n e at))

all_from_at : (P : Entry → Type 0) (xs : List Entry) → ((n : ℕ) (e : Entry) → slice_get xs n ≡ Some e → P e) → AllByRecursion P xs
all_from_at P [] each = tt
all_from_at P (x ∷ xs) each = (each 0 x refl, all_from_at P xs (λ n e at. each (suc n) e at))

get_behind : (xs ys : List Entry) (n : ℕ) → slice_get (xs ++ ys) (length xs + n) ≡ slice_get ys n
get_behind [] ys n = ap (slice_get ys) (let same : 0 + n ≡ n = omega arith in same)
get_behind (x ∷ xs) ys n = ap (slice_get (x ∷ (xs ++ ys))) (let same : suc (length xs) + n ≡ suc (length xs + n) = omega arith in same) ∙ get_behind xs ys n

-- ---- the entries of a play that is over

module _ (script : List Line) (media : Media) (k : ℕ) (own : List ℕ) (h : List Entry) (team : TeamOver script media k own h) (whole : entries (own_in own h) ≡ h) where
  -- what the lanes have added
  pub by_lanes : own_in team.mine h ≡ team.lanes.lines ++ team.lanes.behind
  by_lanes = own_later team.mine team.before h team.below team.later ∙ team.lanes.is

  -- the entry at a place is the lanes' or the workers'
  pub by_either : (n : ℕ) (e : Entry) → slice_get h n ≡ Some e → Contains (own_in team.mine h) (1 + n, e) ⊎ Contains (own_in team.theirs h) (1 + n, e)
  by_either n e at =
      own_either team.mine team.theirs h (1 + n) e (subst (λ (o : List ℕ). Contains (own_in o h) (1 + n, e)) team.is (own_entry own h n e whole at))

  pub lanes_kinds : AllByRecursion (λ x. IsOfLanes x.1) (own_in team.mine h)
  lanes_kinds =
      let behind : AllByRecursion IsOfLanes (entries team.lanes.behind) = all_mapped IsOfLane0 IsOfLanes of_lanes (entries team.lanes.behind) team.lanes.follows.kinds in
      subst (AllByRecursion (λ (x : ℕ × Entry). IsOfLanes x.1)) (sym by_lanes) (all_append (λ (x : ℕ × Entry). IsOfLanes x.1) team.lanes.lines team.lanes.behind (all_placed IsOfLanes team.lanes.lines team.lanes.lanes.kinds) (all_placed IsOfLanes team.lanes.behind behind))

  pub lanes_ended : AreEnded (own_in team.mine h)
  lanes_ended = subst AreEnded (sym by_lanes) (ended_both team.lanes.lines team.lanes.behind team.lanes.lanes.ended team.lanes.follows.ended)

  -- what holds of the entries of the lanes and of those of the workers holds of each
  pub of_either : (P : Entry → Type 0) → ((e : Entry) → IsOfLanes e → P e) → ((e : Entry) → IsOfCrew k e → P e) → (n : ℕ) (e : Entry) → slice_get h n ≡ Some e → P e
  of_either P mine theirs n e at = elim (by_either n e at) [
    | inl l ↦ mine e (all_contains (λ (x : ℕ × Entry). IsOfLanes x.1) (own_in team.mine h) (1 + n, e) lanes_kinds l)
    | inr l ↦ theirs e (all_contains (λ (x : ℕ × Entry). IsOfCrew k x.1) (own_in team.theirs h) (1 + n, e) team.crew.kinds l)
  ]

  -- what is read off the history, where workers give nothing
  pub read : {A : Type 0} (f : Entry → List A) → ((e : Entry) → IsOfCrew k e → f e ≡ []) → flat_map f h ≡ flat_map f (entries team.lanes.lines) ++ flat_map f (entries team.lanes.behind)
  read {A} f none =
      let nothing : AllByRecursion (λ (x : ℕ × Entry). f x.1 ≡ []) (own_in team.theirs h) = all_mapped (λ (x : ℕ × Entry). IsOfCrew k x.1) (λ (x : ℕ × Entry). f x.1 ≡ []) (λ x w. none x.1 w) (own_in team.theirs h) team.crew.kinds in
      ap (flat_map f) (sym whole) ∙ (ap (λ (o : List ℕ). flat_map f (entries (own_in o h))) team.is ∙ (own_flat f team.mine team.theirs 1 h nothing ∙ (ap (λ (xs : Placed). flat_map f (entries xs)) by_lanes ∙ flat_both f team.lanes.lines team.lanes.behind)))

  -- behind what the lanes have seen each entry is a worker's
  pub crew_behind : AllByRecursion (IsOfCrew k) (team.later.0)
  crew_behind = all_from_at (IsOfCrew k) team.later.0 (λ n e at. (
      let m : ℕ = length team.before + n in
      let there : slice_get h m ≡ Some e = ap (λ (xs : List Entry). slice_get xs m) (sym team.later.1) ∙ (get_behind team.before team.later.0 n ∙ at) in
      elim (by_either m e there) [
        | inl l ↦ absurd (omega (arith, team.below (1 + m) (own_stands 1 team.mine h (1 + m) e l).3))
        | inr l ↦ all_contains (λ (x : ℕ × Entry). IsOfCrew k x.1) (own_in team.theirs h) (1 + m, e) team.crew.kinds l
      ]))
