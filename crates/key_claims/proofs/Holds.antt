-- The claims after a new one.
use Rattle.std.proofs.Common.{zero, suc, ◌≡◌, ◌<◌, ◌≤◌, ℕ, Bool, inl, inr, subst, true, false, eqb, List, [], ◌∷◌, ◌++◌, length, set, Option, Some, None, refl, ap, sym, ◌∙◌, arith}
use Rattle.std.specs.Prelude.{slice_get}
use Rattle.key_claims.specs.declared.slots.Generation.{Generation}
use Rattle.key_claims.specs.declared.slots.Held.{Held}
use Rattle.key_claims.specs.declared.slots.Slot.{Slot}
use Rattle.key_claims.specs.TracksState.{ClaimState}
use Rattle.key_claims.specs.Slots.{is_of, NoneOf, claim_in, add_some, claims_in}
use Rattle.key_claims.specs.SlotsKept.{SlotBehind, AllBehind, AllOnce, SlotsKept}
use Rattle.key_claims.specs.Holds.{slot_of, claim_of, is_held, FreePlace, put_at, IsPut}
use Rattle.std.proofs.Math.Nat.{eq-or-lt_of_le}
use Rattle.std.proofs.lemmas.Bool.{or_parts, eqb-false}
use Rattle.key_claims.proofs.Revokes.{is_same, not_same, SameKey, same_of, of_same}

-- one more slot
add_some-more : (o : Option ClaimState) (xs ys : List ClaimState) → add_some o (xs ++ ys) ≡ add_some o xs ++ ys
add_some-more None xs ys = refl
add_some-more (Some c) xs ys = refl

claims_in-more : (gs : List Generation) (ss : List Slot) (s : Slot) → claims_in gs (ss ++ s ∷ []) ≡ claims_in gs ss ++ add_some (claim_in (slice_get gs s.key_at) s) []
claims_in-more gs [] s = refl
claims_in-more gs (x ∷ xs) s = ap (λ cs. add_some (claim_in (slice_get gs x.key_at) x) cs) (claims_in-more gs xs s) ∙ add_some-more (claim_in (slice_get gs x.key_at) x) (claims_in gs xs) _

-- under a known key
pub claims_held : (gs : List Generation) (ss : List Slot) (h : Held) (i n session : ℕ) (kid : List ℕ) (g : Generation) → slice_get gs i ≡ Some g → n ≡ g.number → SameKey session kid g → claims_in gs (ss ++ slot_of h i n ∷ []) ≡ claims_in gs ss ++ claim_of h session kid ∷ []
claims_held gs ss h i n session kid g at number same =
    claims_in-more gs ss (slot_of h i n)
    ∙ (let test : eqb g.number n ≡ true = rw number (is_same g.number) in
    ap (λ cs. claims_in gs ss ++ cs) (rw (at, test, same.session_is, same.kid_is) refl))

-- where a new key is put: behind the last one, or over one
put_end : (gs : List Generation) (g : Generation) → put_at gs (length gs) g ≡ gs ++ g ∷ []
put_end [] g = refl
put_end (x ∷ gs) g = ap (λ (hs : List Generation). x ∷ hs) (put_end gs g)

put_set : (gs : List Generation) (i : ℕ) (g : Generation) → i < length gs → put_at gs i g ≡ set gs i g
put_set [] i g lt = absurd (omega arith)
put_set (x ∷ gs) zero g lt = refl
put_set (x ∷ gs) (suc i) g lt = ap (λ (hs : List Generation). x ∷ hs) (put_set gs i g (omega arith))

pub put_last : (old new : List Generation) (ss : List Slot) (g : Generation) (count : ℕ) → count ≡ length old → FreePlace ss count None → new ≡ old ++ g ∷ [] → IsPut old ss g count new
put_last old new ss g count is free more = record {
  free = λ lt. absurd (omega (arith, is, lt));
  before = free;
  within = omega (arith, is);
  new_ = more ∙ (sym (put_end old g) ∙ ap (λ (n : ℕ). put_at old n g) (sym is));
}

pub put_over : (old : List Generation) (ss : List Slot) (g : Generation) (count place : ℕ) → count ≡ length old → FreePlace ss count (Some place) → IsPut old ss g place (set old place g)
put_over old ss g count place is free =
    let lt : place < length old = omega (arith, is, free.0) in
    record { free = λ l. free.1; before = free.2; within = omega (arith, lt); new_ = sym (put_set old place g lt) }

-- a new key at a place that is no slot's changes no claim
get_other : (gs : List Generation) (g : Generation) (at j n : ℕ) → SlotBehind (slice_get gs j) n → (j ≡ at → ⊥) → slice_get (put_at gs at g) j ≡ slice_get gs j
get_other [] g at j n behind other = absurd behind
get_other (x ∷ gs) g zero zero n behind other = absurd (other refl)
get_other (x ∷ gs) g zero (suc j) n behind other = refl
get_other (x ∷ gs) g (suc at) zero n behind other = refl
get_other (x ∷ gs) g (suc at) (suc j) n behind other = get_other gs g at j n behind (λ e. other (ap suc e))

get_put : (gs : List Generation) (g : Generation) (at : ℕ) → at ≤ length gs → slice_get (put_at gs at g) at ≡ Some g
get_put [] g zero le = refl
get_put [] g (suc at) le = absurd (omega arith)
get_put (x ∷ gs) g zero le = refl
get_put (x ∷ gs) g (suc at) le = get_put gs g at (omega arith)

claims_same : (gs : List Generation) (g : Generation) (at : ℕ) (ss : List Slot) → AllBehind gs ss → is_held ss at ≡ false → claims_in (put_at gs at g) ss ≡ claims_in gs ss
claims_same gs g at [] all free = refl
claims_same gs g at (s ∷ ss) all free =
    let k = or_parts (eqb s.key_at at) (is_held ss at) free in
    rw (get_other gs g at s.key_at s.generation all.0 (eqb-false s.key_at at k.0), claims_same gs g at ss all.1 k.1) refl

-- the place after the last key is no slot's
get_within : (gs : List Generation) (j n : ℕ) → SlotBehind (slice_get gs j) n → j < length gs
get_within [] j n behind = absurd behind
get_within (x ∷ gs) zero n behind = omega arith
get_within (x ∷ gs) (suc j) n behind = (let lt = get_within gs j n behind in omega (arith, lt))

last_free : (gs : List Generation) (ss : List Slot) → AllBehind gs ss → is_held ss (length gs) ≡ false
last_free gs [] all = refl
last_free gs (s ∷ ss) all =
    let lt = get_within gs s.key_at s.generation all.0 in
    let other : eqb s.key_at (length gs) ≡ false = not_same s.key_at (length gs) (λ e. omega (arith, lt, e)) in
    rw other (last_free gs ss all.1)

put_free : (old new : List Generation) (ss : List Slot) (g : Generation) (at : ℕ) → IsPut old ss g at new → AllBehind old ss → is_held ss at ≡ false
put_free old new ss g at put all = elim (eq-or-lt_of_le put.within) [
  | inl e ↦ subst (λ (n : ℕ). is_held ss n ≡ false) (sym e) (last_free old ss all)
  | inr l ↦ put.free l
]

pub put_there : (old new : List Generation) (ss : List Slot) (g : Generation) (at : ℕ) → IsPut old ss g at new → slice_get new at ≡ Some g
put_there old new ss g at put = rw put.new_ (get_put old g at put.within)

pub claims_put : (old new : List Generation) (ss : List Slot) (g : Generation) (at : ℕ) → IsPut old ss g at new → AllBehind old ss → claims_in new ss ≡ claims_in old ss
claims_put old new ss g at put all = rw put.new_ (claims_same old g at ss all (put_free old new ss g at put all))

-- what ties slots to generations stays
behind_slot : (gs : List Generation) (ss : List Slot) (s : Slot) → AllBehind gs ss → SlotBehind (slice_get gs s.key_at) s.generation → AllBehind gs (ss ++ s ∷ [])
behind_slot gs [] s all behind = (behind, tt)
behind_slot gs (x ∷ xs) s all behind = (all.0, behind_slot gs xs s all.1 behind)

behind_put : (gs : List Generation) (g : Generation) (at : ℕ) (ss : List Slot) → AllBehind gs ss → is_held ss at ≡ false → AllBehind (put_at gs at g) ss
behind_put gs g at [] all free = tt
behind_put gs g at (s ∷ ss) all free =
    let k = or_parts (eqb s.key_at at) (is_held ss at) free in
    (rw (get_other gs g at s.key_at s.generation all.0 (eqb-false s.key_at at k.0)) all.0, behind_put gs g at ss all.1 k.1)

none_put : (gs : List Generation) (g : Generation) (at session : ℕ) (kid : List ℕ) → NoneOf gs session kid → is_of session kid g ≡ false → NoneOf (put_at gs at g) session kid
none_put [] g at session kid none other = (other, tt)
none_put (x ∷ gs) g zero session kid none other = (other, none.1)
none_put (x ∷ gs) g (suc at) session kid none other = (none.0, none_put gs g at session kid none.1 other)

other_way : (x g : Generation) → is_of g.session g.kid x ≡ false → is_of x.session x.kid g ≡ false
other_way x g e = go (is_of x.session x.kid g) refl where
  go : (b : Bool) → is_of x.session x.kid g ≡ b → b ≡ false
  go false h = refl
  go true h = absurd (let same = of_same x.session x.kid g h in let back : is_of g.session g.kid x ≡ true = same_of g.session g.kid x (record { session_is = sym same.session_is; kid_is = sym same.kid_is }) in cc)

once_put : (gs : List Generation) (g : Generation) (at : ℕ) → AllOnce gs → NoneOf gs g.session g.kid → AllOnce (put_at gs at g)
once_put [] g at once none = (tt, tt)
once_put (x ∷ gs) g zero once none = (none.1, once.1)
once_put (x ∷ gs) g (suc at) once none = (none_put gs g at x.session x.kid once.0 (other_way x g none.0), once_put gs g at once.1 none.1)

pub kept_slot : (gs : List Generation) (ss : List Slot) (h : Held) (i n : ℕ) (g : Generation) → slice_get gs i ≡ Some g → n ≡ g.number → SlotsKept gs ss → SlotsKept gs (ss ++ slot_of h i n ∷ [])
kept_slot gs ss h i n g at number kept = record { once = kept.once; behind = behind_slot gs ss (slot_of h i n) kept.behind (rw at (omega arith)) }

pub kept_put : (old new : List Generation) (ss : List Slot) (g : Generation) (at : ℕ) → NoneOf old g.session g.kid → IsPut old ss g at new → SlotsKept old ss → SlotsKept new ss
kept_put old new ss g at none put kept = rw put.new_ (record { once = once_put old g at kept.once none; behind = behind_put old g at ss kept.behind (put_free old new ss g at put kept.behind) })
