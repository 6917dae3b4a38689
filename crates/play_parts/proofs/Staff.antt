-- A play that is over was staffed, and no claim is open.
use Rattle.std.proofs.Common.{suc, ◌≡◌, ℕ, ◌+◌, ◌-◌, ◌≤◌, Bool, true, false, List, [], ◌∷◌, Contains, Some, count_by, if◌then◌else◌, refl, ap, sym, subst, ◌∙◌, arith, inl, inr}
use Rattle.std.specs.Prelude.{slice_get}
use Rattle.std.proofs.lemmas.Bool.{eqb-true}
use Rattle.std.proofs.lemmas.List.Sums.{sum_by-cons}
use Rattle.eme_types.specs.declared.media.Media.{Media}
use Rattle.eme_types.specs.declared.entry.Entry.{Entry}
use Rattle.eme_types.specs.declared.entry.Entry.TheVariants.{Claim, GiveUp}
use Rattle.script_lang.specs.declared.script.Line.{Line}
use Rattle.cdm_state.specs.Progress.{NoneWaits}
use Rattle.output_order.specs.Staffed.{NamesWorker, claims_as, gives_up, IsStaffed}
use Rattle.shared_cdm.specs.Own.{own_in, entries}
use Rattle.shared_cdm.proofs.Held.{own_stands, unended_now}
use Rattle.play_parts.specs.Asks.{IsOfLanes}
use Rattle.play_parts.specs.Crew.{IsOfCrew, IsClaimOf}
use Rattle.play_parts.specs.Whole.{TeamOver}
use Rattle.play_parts.proofs.Reading.{all_contains}
use Rattle.play_parts.proofs.Team.{by_either, lanes_kinds, lanes_ended, of_either}

-- ---- counts

module _ {A : Type 0} (p : A → Bool) where
  count_cons : (x : A) (xs : List A) (b : Bool) → p x ≡ b → count_by p (x ∷ xs) ≡ (if b then 1 else 0) + count_by p xs
  count_cons x xs b is = sum_by-cons (λ (y : A). if p y then 1 else 0) x xs ∙ ap (λ (c : Bool). (if c then 1 else 0) + count_by p xs) is

  count_none : (xs : List A) → ((n : ℕ) (x : A) → slice_get xs n ≡ Some x → p x ≡ true → ⊥) → count_by p xs ≡ 0
  count_none [] none = refl
  count_none (x ∷ xs) none = go (p x) refl (count_none xs (λ n y at. none (suc n) y at))
    where
      go : (b : Bool) → p x ≡ b → count_by p xs ≡ 0 → count_by p (x ∷ xs) ≡ 0
      go true is rest = absurd (none 0 x refl is)
      go false is rest = omega (arith, count_cons x xs false is, rest)

  -- where any two that pass are one
  count_one : (xs : List A) → ((n m : ℕ) (x y : A) → slice_get xs n ≡ Some x → p x ≡ true → slice_get xs m ≡ Some y → p y ≡ true → n ≡ m) → count_by p xs ≤ 1
  count_one [] one = omega arith
  count_one (x ∷ xs) one =
      let rest : count_by p xs ≤ 1 = count_one xs (λ n m y z at yes there so. (let same : suc n ≡ suc m = one (suc n) (suc m) y z at yes there so in omega (arith, same))) in
      go (p x) refl rest (λ is. count_none xs (λ n y at yes. (let clash : 0 ≡ suc n = one 0 (suc n) x y refl is at yes in omega (arith, clash))))
    where
      go : (b : Bool) → p x ≡ b → count_by p xs ≤ 1 → (p x ≡ true → count_by p xs ≡ 0) → count_by p (x ∷ xs) ≤ 1
      go true is rest none = omega (arith, count_cons x xs true is, none is)
      go false is rest none = omega (arith, count_cons x xs false is, rest)

-- ---- workers

lanes_names : (k : ℕ) (e : Entry) → IsOfLanes e → NamesWorker k e
lanes_names k (Claim worker track index session kid) h = omega (arith, h)
lanes_names k e h = tt

crew_names : (k : ℕ) (e : Entry) → IsOfCrew k e → NamesWorker k e
crew_names k (Claim worker track index session kid) h = h.1
crew_names k e h = tt

gave : (h : List Entry) (worker : ℕ) (e : Entry) → gives_up h worker e ≡ true → (place : ℕ) × (e ≡ GiveUp place) × (claims_as worker (slice_get h (place - 1)) ≡ true)
gave h worker (GiveUp place) is = (place, refl, is)
gave h worker e is = absurd cc

module _ (script : List Line) (media : Media) (k : ℕ) (own : List ℕ) (h : List Entry) (team : TeamOver script media k own h) (whole : entries (own_in own h) ≡ h) where
  record GivenBy (worker n : ℕ) : Type 0 where
    place : ℕ
    here : Contains (own_in team.theirs h) (1 + n, GiveUp place)
    claim : IsClaimOf worker (own_in team.theirs h) place

  -- a claim that is given up is one of the crew's, which gave it up
  given_by : (worker n : ℕ) (e : Entry) → slice_get h n ≡ Some e → gives_up h worker e ≡ true → GivenBy worker n
  given_by worker n e at is =
      let g = gave h worker e is in
      let place : ℕ = g.0 in
      let at' : slice_get h n ≡ Some (GiveUp place) = at ∙ ap Some g.1 in
      elim (by_either script media k own h team whole n (GiveUp place) at') [
        | inl l ↦ absurd (all_contains (λ (x : ℕ × Entry). IsOfLanes x.1) (own_in team.mine h) (1 + n, GiveUp place) (lanes_kinds script media k own h team whole) l)
        | inr l ↦ (
            let r = team.crew.theirs (1 + n) place l in
            let c = r.1 in
            let s = own_stands 1 team.theirs h place (Claim r.0 c.0 c.1 c.2 c.3) c.4 in
            let same : place - 1 ≡ s.0 = omega (arith, s.1) in
            let there : slice_get h (place - 1) ≡ Some (Claim r.0 c.0 c.1 c.2 c.3) = ap (slice_get h) same ∙ s.2 in
            let who : r.0 ≡ worker = eqb-true r.0 worker (sym (ap (claims_as worker) there) ∙ g.2) in
            record { place = place; here = l; claim = subst (λ (w : ℕ). IsClaimOf w (own_in team.theirs h) place) who c })
      ]

  none_by_0 : (n : ℕ) (e : Entry) → slice_get h n ≡ Some e → gives_up h 0 e ≡ true → ⊥
  none_by_0 n e at is =
      let g = given_by 0 n e at is in
      let c = g.claim in
      let one : IsOfCrew k (Claim 0 c.0 c.1 c.2 c.3) = all_contains (λ (x : ℕ × Entry). IsOfCrew k x.1) (own_in team.theirs h) (g.place, Claim 0 c.0 c.1 c.2 c.3) team.crew.kinds c.4 in
      omega (arith, one.0)

  one_by : (worker n m : ℕ) (e x : Entry) → slice_get h n ≡ Some e → gives_up h worker e ≡ true → slice_get h m ≡ Some x → gives_up h worker x ≡ true → n ≡ m
  one_by worker n m e x at is there so =
      let f = given_by worker n e at is in
      let g = given_by worker m x there so in
      let same : 1 + n ≡ 1 + m = team.crew.few worker (1 + n) (1 + m) f.place g.place f.here f.claim g.here g.claim in omega (arith, same)

  pub is_staffed : IsStaffed k h
  is_staffed = record {
    named = of_either script media k own h team whole (NamesWorker k) (lanes_names k) (crew_names k);
    none_of_0 = count_none (gives_up h 0) h none_by_0;
    one_each = λ worker. count_one (gives_up h worker) h (one_by worker);
  }

  -- ---- claims

  pub none_waits : NoneWaits h
  none_waits place u =
      let n : ℕ = place - 1 in
      let claim : Entry = Claim u.worker u.track u.index u.session u.kid in
      let here : 1 + n ≡ place = omega (arith, u.at.0) in
      elim (by_either script media k own h team whole n claim u.at.1) [
        | inl l ↦ (let r = lanes_ended script media k own h team whole place claim (subst (λ (p : ℕ). Contains (own_in team.mine h) (p, claim)) here l) tt in unended_now team.mine h place u r.0 r.1 r.2 r.3)
        | inr l ↦ (let r = team.crew.ended place claim (subst (λ (p : ℕ). Contains (own_in team.theirs h) (p, claim)) here l) tt in unended_now team.theirs h place u r.0 r.1 r.2 r.3)
      ]
