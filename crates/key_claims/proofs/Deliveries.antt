-- The slot of a place, and what readers of slots pass over.
use Rattle.std.proofs.Common.{zero, suc, ◌≡◌, ℕ, ◌+◌, ◌<◌, Bool, true, false, eqb, not, List, [], ◌∷◌, length, take, get_or, set, add-one, Option, Some, None, refl, ap, sym, ◌∙◌, arith, Result, Ok, Err}
use Rattle.std.specs.Prelude.{slice_get, ◌&&◌, ◌||◌, if◌then◌else◌, OnErr}
use Rattle.std.specs.List.{filter, remove}
use Rattle.std.proofs.lemmas.Bool.{and_parts, eqb-true, eq-eqb}
use Rattle.key_claims.specs.declared.slots.Generation.{Generation}
use Rattle.key_claims.specs.declared.slots.Slot.{Slot}
use Rattle.key_claims.specs.SlotsKept.{AllBehind, SlotsKept}
use Rattle.key_claims.specs.TracksState.{ClaimState}
use Rattle.key_claims.specs.Claims.{has_place, give_clear, clear_at, is_other}
use Rattle.key_claims.specs.Slots.{claim_with, claim_in, slot_claim, add_some, claims_in, current_in, is_current, is_at, is_other_slot, NoneAt, IsSlotOf, with_clear}

and_left : (a : Bool) → (a && true) ≡ false → a ≡ false
and_left true e = absurd cc
and_left false e = refl

-- a slot that holds no claim given at the place
skipped : (o : Option Generation) (s : Slot) (place : ℕ) (cs : List ClaimState) → (eqb s.place place && current_in o s.generation) ≡ false → has_place place (add_some (claim_in o s) cs) ≡ has_place place cs
skipped None s place cs e = refl
skipped (Some g) s place cs e = go (eqb g.number s.generation) e where
  go : (b : Bool) → (eqb s.place place && b) ≡ false → has_place place (add_some (if b then Some (claim_with g s) else None) cs) ≡ has_place place cs
  go false e = refl
  go true e = (let no = and_left (eqb s.place place) e in rw no refl)

pub none_placed : (gs : List Generation) (ss : List Slot) (place : ℕ) → NoneAt gs ss place → has_place place (claims_in gs ss) ≡ false
none_placed gs [] place none = refl
none_placed gs (s ∷ ss) place none = skipped (slice_get gs s.key_at) s place (claims_in gs ss) none.0 ∙ none_placed gs ss place none.1

-- the slot that holds it
pub record Found (o : Option Generation) (s : Slot) (place : ℕ) (cs : List ClaimState) : Type 0 where
  pub there : has_place place (add_some (claim_in o s) cs) ≡ true
  pub place_ : s.place ≡ place
  pub clear_ : clear_at place (add_some (claim_in o s) cs) ≡ s.clear
  pub given : (clear : List ℕ) → add_some (claim_in o (with_clear clear s)) cs ≡ give_clear place clear (add_some (claim_in o s) cs)

found : (o : Option Generation) (s : Slot) (place : ℕ) (cs : List ClaimState) → (eqb s.place place && current_in o s.generation) ≡ true → Found o s place cs
found None s place cs e = absurd (let no : false ≡ true = (and_parts (eqb s.place place) false e).1 in cc)
found (Some g) s place cs e =
    let k = and_parts (eqb s.place place) (eqb g.number s.generation) e in
    record { there = rw (k.1, k.0) refl; place_ = eqb-true s.place place k.0; clear_ = rw (k.1, k.0) refl; given = λ clear. rw (k.1, k.0) refl }

other : (o : Option Generation) (s : Slot) (place : ℕ) (cs : List ClaimState) → (eqb s.place place && current_in o s.generation) ≡ false → (clear : List ℕ) → give_clear place clear (add_some (claim_in o s) cs) ≡ add_some (claim_in o s) (give_clear place clear cs)
other None s place cs e clear = refl
other (Some g) s place cs e clear = go (eqb g.number s.generation) e where
  go : (b : Bool) → (eqb s.place place && b) ≡ false → give_clear place clear (add_some (if b then Some (claim_with g s) else None) cs) ≡ add_some (if b then Some (claim_with g s) else None) (give_clear place clear cs)
  go false e = refl
  go true e = (let no = and_left (eqb s.place place) e in rw no refl)

other_clear : (o : Option Generation) (s : Slot) (place : ℕ) (cs : List ClaimState) → (eqb s.place place && current_in o s.generation) ≡ false → clear_at place (add_some (claim_in o s) cs) ≡ clear_at place cs
other_clear None s place cs e = refl
other_clear (Some g) s place cs e = go (eqb g.number s.generation) e where
  go : (b : Bool) → (eqb s.place place && b) ≡ false → clear_at place (add_some (if b then Some (claim_with g s) else None) cs) ≡ clear_at place cs
  go false e = refl
  go true e = (let no = and_left (eqb s.place place) e in rw no refl)

pub placed : (gs : List Generation) (ss : List Slot) (place i : ℕ) (e : Slot) → i < length ss → NoneAt gs (take i ss) place → is_at gs place (get_or ss i e) ≡ true → IsSlotOf gs ss place i
placed gs [] place i e lt none is = absurd (omega arith)
placed gs (s ∷ ss) place zero e lt none is =
    let f = found (slice_get gs s.key_at) s place (claims_in gs ss) is in
    record { within = lt; there = f.there; place_ = λ d. f.place_; clear_ = λ d. f.clear_; given = λ clear d. f.given clear }
placed gs (s ∷ ss) place (suc i) e lt none is =
    let rest = placed gs ss place i e (omega arith) none.1 is in record {
      within = lt;
      there = skipped (slice_get gs s.key_at) s place (claims_in gs ss) none.0 ∙ rest.there;
      place_ = λ d. rest.place_ d;
      clear_ = λ d. other_clear (slice_get gs s.key_at) s place (claims_in gs ss) none.0 ∙ rest.clear_ d;
      given = λ clear d. ap (λ cs. add_some (slot_claim gs s) cs) (rest.given clear d) ∙ sym (other (slice_get gs s.key_at) s place (claims_in gs ss) none.0 clear);
    }

pub none_at_more : (gs : List Generation) (ss : List Slot) (place i : ℕ) (e : Slot) → i < length ss → NoneAt gs (take i ss) place → is_at gs place (get_or ss i e) ≡ false → NoneAt gs (take (i + 1) ss) place
none_at_more gs ss place i e lt none is = rw add-one (go ss i lt none is) where
  go : (ss : List Slot) (i : ℕ) → i < length ss → NoneAt gs (take i ss) place → is_at gs place (get_or ss i e) ≡ false → NoneAt gs (take (suc i) ss) place
  go [] i lt none is = tt
  go (s ∷ ss) zero lt none is = (is, tt)
  go (s ∷ ss) (suc i) lt none is = (none.0, go ss i (omega arith) none.1 is)

pub kept_cleared : (gs : List Generation) (ss : List Slot) (i : ℕ) (v : Slot) (clear : List ℕ) → v ≡ get_or ss i v → SlotsKept gs ss → SlotsKept gs (set ss i (with_clear clear v))
kept_cleared gs ss i v clear e kept = record { once = kept.once; behind = go ss i e kept.behind } where
  go : (ss : List Slot) (i : ℕ) → v ≡ get_or ss i v → AllBehind gs ss → AllBehind gs (set ss i (with_clear clear v))
  go [] i e all = tt
  go (s ∷ ss) zero e all = (rw e all.0, all.1)
  go (s ∷ ss) (suc i) e all = (all.0, go ss i e all.1)

-- without the slots of ended claims
ended_skip : (o : Option Generation) (s : Slot) (cs : List ClaimState) → current_in o s.generation ≡ false → add_some (claim_in o s) cs ≡ cs
ended_skip None s cs e = refl
ended_skip (Some g) s cs e = rw e refl

pub claims_current : (gs : List Generation) (ss : List Slot) → claims_in gs (filter (is_current gs) ss) ≡ claims_in gs ss
claims_current gs [] = refl
claims_current gs (s ∷ ss) = go (is_current gs s) refl (claims_current gs ss) where
  go : (b : Bool) → is_current gs s ≡ b → claims_in gs (filter (is_current gs) ss) ≡ claims_in gs ss → claims_in gs (if b then s ∷ filter (is_current gs) ss else filter (is_current gs) ss) ≡ add_some (slot_claim gs s) (claims_in gs ss)
  go true e rest = ap (λ cs. add_some (slot_claim gs s) cs) rest
  go false e rest = rest ∙ sym (ended_skip (slice_get gs s.key_at) s (claims_in gs ss) e)

behind_filter : (f : Slot → Bool) (gs : List Generation) (ss : List Slot) → AllBehind gs ss → AllBehind gs (filter f ss)
behind_filter f gs [] all = tt
behind_filter f gs (s ∷ ss) all = go (f s) (behind_filter f gs ss all.1) where
  go : (b : Bool) → AllBehind gs (filter f ss) → AllBehind gs (if b then s ∷ filter f ss else filter f ss)
  go true rest = (all.0, rest)
  go false rest = rest

pub kept_filter : (f : Slot → Bool) (gs : List Generation) (ss : List Slot) → SlotsKept gs ss → SlotsKept gs (filter f ss)
kept_filter f gs ss kept = record { once = kept.once; behind = behind_filter f gs ss kept.behind }

-- without the slots of a place
unchanged : (b : Bool) (cs : List ClaimState) → cs ≡ (if b then cs else cs)
unchanged true cs = refl
unchanged false cs = refl

other_some : (o : Option Generation) (s : Slot) (place : ℕ) (cs : List ClaimState) → filter (is_other place) (add_some (claim_in o s) cs) ≡ (if not (eqb s.place place) then add_some (claim_in o s) (filter (is_other place) cs) else filter (is_other place) cs)
other_some None s place cs = unchanged (not (eqb s.place place)) (filter (is_other place) cs)
other_some (Some g) s place cs = go (eqb g.number s.generation) where
  go : (b : Bool) → filter (is_other place) (add_some (if b then Some (claim_with g s) else None) cs) ≡ (if not (eqb s.place place) then add_some (if b then Some (claim_with g s) else None) (filter (is_other place) cs) else filter (is_other place) cs)
  go true = refl
  go false = unchanged (not (eqb s.place place)) (filter (is_other place) cs)

pub claims_other_place : (gs : List Generation) (ss : List Slot) (place : ℕ) → claims_in gs (filter (is_other_slot place) ss) ≡ filter (is_other place) (claims_in gs ss)
claims_other_place gs [] place = refl
claims_other_place gs (s ∷ ss) place = go (not (eqb s.place place)) (claims_other_place gs ss place) ∙ sym (other_some (slice_get gs s.key_at) s place (claims_in gs ss)) where
  go : (b : Bool) → claims_in gs (filter (is_other_slot place) ss) ≡ filter (is_other place) (claims_in gs ss) → claims_in gs (if b then s ∷ filter (is_other_slot place) ss else filter (is_other_slot place) ss) ≡ (if b then add_some (slot_claim gs s) (filter (is_other place) (claims_in gs ss)) else filter (is_other place) (claims_in gs ss))
  go true rest = ap (λ cs. add_some (slot_claim gs s) cs) rest
  go false rest = rest

-- a slot of the place is removed before
pub filter_removed : (ss : List Slot) (i place : ℕ) (d : Slot) → i < length ss → (get_or ss i d).place ≡ place → filter (is_other_slot place) (remove ss i) ≡ filter (is_other_slot place) ss
filter_removed [] i place d lt same = absurd (omega arith)
filter_removed (s ∷ ss) zero place d lt same = (let e = eq-eqb s.place place same in rw e refl)
filter_removed (s ∷ ss) (suc i) place d lt same = go (not (eqb s.place place)) (filter_removed ss i place d (omega arith) same) where
  go : (b : Bool) → filter (is_other_slot place) (remove ss i) ≡ filter (is_other_slot place) ss → (if b then s ∷ filter (is_other_slot place) (remove ss i) else filter (is_other_slot place) (remove ss i)) ≡ (if b then s ∷ filter (is_other_slot place) ss else filter (is_other_slot place) ss)
  go true rest = ap (λ xs. s ∷ xs) rest
  go false rest = rest

-- no claim at the place: nothing of it to take
pub clear_none : (place : ℕ) (cs : List ClaimState) → has_place place cs ≡ false → clear_at place cs ≡ None
clear_none place [] none = refl
clear_none place (c ∷ cs) none = go (λ h. clear_none place cs h) (eqb c.place place) none where
  go : (has_place place cs ≡ false → clear_at place cs ≡ None) → (b : Bool) → (b || has_place place cs) ≡ false → (if b then c.clear else clear_at place cs) ≡ None
  go again true e = absurd cc
  go again false e = again e

pub on_err : {A E P : Type 0} (r : Result A E) → P → OnErr r P
on_err (Ok x) p = tt
on_err (Err x) p = p
