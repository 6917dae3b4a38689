-- A new generation of a key ends just the claims under it.
use Rattle.std.proofs.Common.{zero, suc, ◌≡◌, ℕ, ◌+◌, ◌<◌, ◌≤◌, inl, inr, Bool, true, false, eqb, List, [], ◌∷◌, map, length, take, drop, ◌++◌, add-one, get_or, set, Option, Some, None, refl, ap, sym, ◌∙◌, arith}
use Rattle.std.specs.Prelude.{slice_get, slice_set, not, if◌then◌else◌}
use Rattle.std.specs.Str.{bytes_eq}
use Rattle.std.proofs.lemmas.Bool.Decides.{eqb_tells}
use Rattle.std.proofs.lemmas.Option.{slice_get-get_or}
use Rattle.key_claims.specs.declared.slots.Generation.{Generation}
use Rattle.key_claims.specs.declared.slots.Slot.{Slot}
use Rattle.key_claims.specs.TracksState.{ClaimState}
use Rattle.key_claims.specs.Claims.{is_under, revoked}
use Rattle.key_claims.specs.Slots.{is_of, NoneOf, claim_with, claim_in, slot_claim, add_some, claims_in, ended, bumped, Bumps, KeyPlace}
use Rattle.key_claims.specs.SlotsKept.{SlotBehind, AllBehind, AllOnce, SlotsKept}

-- one claim after a revocation
abbrev pub survives : ℕ → List ℕ → Option ClaimState → Option ClaimState
survives session kid None = None
survives session kid (Some c) = if not (is_under session kid c) then Some c else None

-- the list is filtered where each of its items is
pub filter_some : (session : ℕ) (kid : List ℕ) (o : Option ClaimState) (cs : List ClaimState) → add_some (survives session kid o) (revoked session kid cs) ≡ revoked session kid (add_some o cs)
filter_some session kid None cs = refl
filter_some session kid (Some c) cs = go (not (is_under session kid c)) where
  go : (b : Bool) → add_some (if b then Some c else None) (revoked session kid cs) ≡ (if b then c ∷ revoked session kid cs else revoked session kid cs)
  go true = refl
  go false = refl

pub not_same : (a b : ℕ) → (a ≡ b → ⊥) → eqb a b ≡ false
not_same a b ne = elim (eqb_tells a b) [ inl p ↦ absurd (ne p.1) | inr p ↦ p.0 ]

pub is_same : (a : ℕ) → eqb a a ≡ true
is_same a = elim (eqb_tells a a) [ inl p ↦ p.0 | inr p ↦ absurd (p.1 refl) ]

-- a slot under the bumped key holds no claim any more
bumped_none : (g : Generation) (s : Slot) → s.generation ≤ g.number → claim_in (Some (bumped g)) s ≡ None
bumped_none g s le = (let e : eqb (g.number + 1) s.generation ≡ false = not_same _ _ (λ h. omega arith) in rw e refl)

-- nor does any claim under it survive
under_none : (session : ℕ) (kid : List ℕ) (g : Generation) (s : Slot) → is_of session kid g ≡ true → survives session kid (claim_in (Some g) s) ≡ None
under_none session kid g s is = go (eqb g.number s.generation) where
  go : (b : Bool) → survives session kid (if b then Some (claim_with g s) else None) ≡ None
  go true = rw is refl
  go false = refl

abbrev pub OtherOf : ℕ → List ℕ → Option Generation → Type 0
OtherOf session kid None = Unit {0}
OtherOf session kid (Some g) = is_of session kid g ≡ false

other_same : (session : ℕ) (kid : List ℕ) (o : Option Generation) (s : Slot) → OtherOf session kid o → claim_in o s ≡ survives session kid (claim_in o s)
other_same session kid None s is = refl
other_same session kid (Some g) s is = go (eqb g.number s.generation) where
  go : (b : Bool) → (if b then Some (claim_with g s) else None) ≡ survives session kid (if b then Some (claim_with g s) else None)
  go true = rw is refl
  go false = refl

none_get : (gs : List Generation) (session : ℕ) (kid : List ℕ) (j : ℕ) → NoneOf gs session kid → OtherOf session kid (slice_get gs j)
none_get [] session kid j none = tt
none_get (g ∷ gs) session kid zero none = none.0
none_get (g ∷ gs) session kid (suc j) none = none_get gs session kid j none.1

-- a key of the same session and id
pub record SameKey (session : ℕ) (kid : List ℕ) (g : Generation) : Type 0 where
  pub session_is : g.session ≡ session
  pub kid_is : g.kid ≡ kid

pub bytes_is : (kid : List ℕ) → bytes_eq kid kid ≡ true
bytes_is [] = refl
bytes_is (x ∷ xs) = rw (is_same x) (bytes_is xs)

pub bytes_same : (a b : List ℕ) → bytes_eq a b ≡ true → a ≡ b
bytes_same [] [] e = refl
bytes_same [] (y ∷ ys) e = absurd cc
bytes_same (x ∷ xs) [] e = absurd cc
bytes_same (x ∷ xs) (y ∷ ys) e = elim (eqb_tells x y) [
  | inl p ↦ (let rest : bytes_eq xs ys ≡ true = rw p.0 at e in let same = bytes_same xs ys rest in let first = p.1 in cc)
  | inr p ↦ absurd (let none : false ≡ true = rw p.0 at e in cc)
]

pub same_of : (session : ℕ) (kid : List ℕ) (g : Generation) → SameKey session kid g → is_of session kid g ≡ true
same_of session kid g same = rw (same.session_is, same.kid_is, is_same session) (bytes_is kid)

pub of_same : (session : ℕ) (kid : List ℕ) (g : Generation) → is_of session kid g ≡ true → SameKey session kid g
of_same session kid g is = elim (eqb_tells g.session session) [
  | inl p ↦ record { session_is = p.1; kid_is = bytes_same g.kid kid (rw p.0 at is) }
  | inr p ↦ absurd (let none : false ≡ true = rw p.0 at is in cc)
]

false_of : (session : ℕ) (kid : List ℕ) (g : Generation) → (SameKey session kid g → ⊥) → is_of session kid g ≡ false
false_of session kid g ne = go (is_of session kid g) refl where
  go : (b : Bool) → is_of session kid g ≡ b → b ≡ false
  go true e = absurd (ne (of_same session kid g e))
  go false e = refl

-- what the key at i leaves of a claim under the key at j
claim_after : (gs : List Generation) (i j session : ℕ) (kid : List ℕ) (g : Generation) (s : Slot) → AllOnce gs → slice_get gs i ≡ Some g → SameKey session kid g → SlotBehind (slice_get gs j) s.generation → claim_in (slice_get (slice_set gs i (bumped g)) j) s ≡ survives session kid (claim_in (slice_get gs j) s)
claim_after [] i j session kid g s once at same behind = absurd cc
claim_after (x ∷ gs) zero zero session kid g s once at same behind =
    let e : x ≡ g = cc in
    rw e (bumped_none g s (rw (← e) behind) ∙ sym (under_none session kid g s (same_of session kid g same)))
claim_after (x ∷ gs) zero (suc j) session kid g s once at same behind =
    let e : x ≡ g = cc in
    other_same session kid (slice_get gs j) s (none_get gs session kid j (rw (← same.session_is, ← same.kid_is, ← e) once.0))
claim_after (x ∷ gs) (suc i) zero session kid g s once at same behind =
    other_same session kid (Some x) s (false_of session kid x (λ this. (let other : OtherOf x.session x.kid (slice_get gs i) = none_get gs x.session x.kid i once.0 in let other' : OtherOf x.session x.kid (Some g) = rw at at other in let this' : is_of x.session x.kid g ≡ true = same_of x.session x.kid g (record { session_is = same.session_is ∙ sym this.session_is; kid_is = same.kid_is ∙ sym this.kid_is }) in cc)))
claim_after (x ∷ gs) (suc i) (suc j) session kid g s once at same behind = claim_after gs i j session kid g s once.1 at same behind

-- the claims after a new generation
pub claims_after : (gs : List Generation) (ss : List Slot) (i session : ℕ) (kid : List ℕ) (g : Generation) → AllOnce gs → slice_get gs i ≡ Some g → SameKey session kid g → AllBehind gs ss → claims_in (slice_set gs i (bumped g)) ss ≡ revoked session kid (claims_in gs ss)
claims_after gs [] i session kid g once at same behind = refl
claims_after gs (s ∷ ss) i session kid g once at same behind =
    rw (claim_after gs i s.key_at session kid g s once at same behind.0, claims_after gs ss i session kid g once at same behind.1) (filter_some session kid (slot_claim gs s) (claims_in gs ss))

-- where the key is not known, there is no claim under it
pub claims_other : (gs : List Generation) (ss : List Slot) (session : ℕ) (kid : List ℕ) → NoneOf gs session kid → claims_in gs ss ≡ revoked session kid (claims_in gs ss)
claims_other gs [] session kid none = refl
claims_other gs (s ∷ ss) session kid none =
    ap (λ cs. add_some (slot_claim gs s) cs) (claims_other gs ss session kid none)
    ∙ (ap (λ o. add_some o (revoked session kid (claims_in gs ss))) (other_same session kid (slice_get gs s.key_at) s (none_get gs session kid s.key_at none)) ∙ filter_some session kid (slot_claim gs s) (claims_in gs ss))

-- what ties slots to generations stays
none_set : (gs : List Generation) (i : ℕ) (g : Generation) (session : ℕ) (kid : List ℕ) → slice_get gs i ≡ Some g → NoneOf gs session kid → NoneOf (slice_set gs i (bumped g)) session kid
none_set [] i g session kid at none = absurd cc
none_set (x ∷ gs) zero g session kid at none = (let e : x ≡ g = cc in (rw (← e) none.0, none.1))
none_set (x ∷ gs) (suc i) g session kid at none = (none.0, none_set gs i g session kid at none.1)

once_set : (gs : List Generation) (i : ℕ) (g : Generation) → slice_get gs i ≡ Some g → AllOnce gs → AllOnce (slice_set gs i (bumped g))
once_set [] i g at once = absurd cc
once_set (x ∷ gs) zero g at once = (let e : x ≡ g = cc in (rw (← e) once.0, once.1))
once_set (x ∷ gs) (suc i) g at once = (none_set gs i g x.session x.kid at once.0, once_set gs i g at once.1)

behind_set : (gs : List Generation) (i j n : ℕ) (g : Generation) → slice_get gs i ≡ Some g → SlotBehind (slice_get gs j) n → SlotBehind (slice_get (slice_set gs i (bumped g)) j) n
behind_set [] i j n g at behind = absurd cc
behind_set (x ∷ gs) zero zero n g at behind = (let e : x ≡ g = cc in let le : n ≤ g.number = rw (← e) behind in omega arith)
behind_set (x ∷ gs) zero (suc j) n g at behind = behind
behind_set (x ∷ gs) (suc i) zero n g at behind = behind
behind_set (x ∷ gs) (suc i) (suc j) n g at behind = behind_set gs i j n g at behind

all_behind_set : (gs : List Generation) (ss : List Slot) (i : ℕ) (g : Generation) → slice_get gs i ≡ Some g → AllBehind gs ss → AllBehind (slice_set gs i (bumped g)) ss
all_behind_set gs [] i g at all = tt
all_behind_set gs (s ∷ ss) i g at all = (behind_set gs i s.key_at s.generation g at all.0, all_behind_set gs ss i g at all.1)

pub kept_after : (gs : List Generation) (ss : List Slot) (i : ℕ) (g : Generation) → slice_get gs i ≡ Some g → SlotsKept gs ss → SlotsKept (slice_set gs i (bumped g)) ss
kept_after gs ss i g at kept = record { once = once_set gs i g at kept.once; behind = all_behind_set gs ss i g at kept.behind }

pub none_more : (gs : List Generation) (session : ℕ) (kid : List ℕ) (i : ℕ) (d : Generation) → i < length gs → NoneOf (take i gs) session kid → is_of session kid (get_or gs i d) ≡ false → NoneOf (take (i + 1) gs) session kid
none_more gs session kid i d lt none is = rw add-one (go gs i lt none is) where
  go : (gs : List Generation) (i : ℕ) → i < length gs → NoneOf (take i gs) session kid → is_of session kid (get_or gs i d) ≡ false → NoneOf (take (suc i) gs) session kid
  go [] i lt none is = tt
  go (g ∷ gs) zero lt none is = (is, tt)
  go (g ∷ gs) (suc i) lt none is = (none.0, go gs i (omega arith) none.1 is)

pub map_more : (f : Slot → Slot) (xs ys : List Slot) (i : ℕ) (d v : Slot) → i < length xs → ys ≡ map f (take i xs) ++ drop i xs → v ≡ f (get_or ys i d) → set ys i v ≡ map f (take (i + 1) xs) ++ drop (i + 1) xs
map_more f xs ys i d v lt e is = rw (add-one, is, e) (go xs i lt) where
  go : (xs : List Slot) (i : ℕ) → i < length xs → set (map f (take i xs) ++ drop i xs) i (f (get_or (map f (take i xs) ++ drop i xs) i d)) ≡ map f (take (suc i) xs) ++ drop (suc i) xs
  go [] i lt = absurd (omega arith)
  go (x ∷ xs) zero lt = refl
  go (x ∷ xs) (suc i) lt = ap (λ zs. f x ∷ zs) (go xs i (omega arith))

-- the slots of a key whose numbers have run out
eqb_suc : (a b : ℕ) → eqb (suc a) (suc b) ≡ eqb a b
eqb_suc a b = elim (eqb_tells a b) [ inl p ↦ rw p.1 (is_same (suc b) ∙ sym (is_same b)) | inr p ↦ not_same (suc a) (suc b) (λ e. p.1 (omega arith)) ∙ sym p.0 ]

abbrev pub with_generation : ℕ → Slot → Slot
with_generation n s = record s { generation = n }

ended_in : (gs : List Generation) (i j session : ℕ) (kid : List ℕ) (g : Generation) (s : Slot) → AllOnce gs → slice_get gs i ≡ Some g → SameKey session kid g → 0 < g.number → claim_in (slice_get gs j) (with_generation (if eqb j i then 0 else s.generation) s) ≡ survives session kid (claim_in (slice_get gs j) s)
ended_in [] i j session kid g s once at same big = absurd cc
ended_in (x ∷ gs) zero zero session kid g s once at same big =
    let e : x ≡ g = cc in
    let n : eqb g.number 0 ≡ false = not_same _ _ (λ h. omega arith) in
    rw (e, n) (sym (under_none session kid g s (same_of session kid g same)))
ended_in (x ∷ gs) zero (suc j) session kid g s once at same big =
    let e : x ≡ g = cc in
    let n : eqb (suc j) 0 ≡ false = not_same _ _ (λ h. omega arith) in
    rw n (other_same session kid (slice_get gs j) s (none_get gs session kid j (rw (← same.session_is, ← same.kid_is, ← e) once.0)))
ended_in (x ∷ gs) (suc i) zero session kid g s once at same big =
    let n : eqb 0 (suc i) ≡ false = not_same _ _ (λ h. omega arith) in
    rw n (other_same session kid (Some x) s (false_of session kid x (λ this. (let other : OtherOf x.session x.kid (slice_get gs i) = none_get gs x.session x.kid i once.0 in let other' : OtherOf x.session x.kid (Some g) = rw at at other in let this' : is_of x.session x.kid g ≡ true = same_of x.session x.kid g (record { session_is = same.session_is ∙ sym this.session_is; kid_is = same.kid_is ∙ sym this.kid_is }) in cc))))
ended_in (x ∷ gs) (suc i) (suc j) session kid g s once at same big = rw eqb_suc (ended_in gs i j session kid g s once.1 at same big)

pub claims_ended : (gs : List Generation) (ss : List Slot) (i session : ℕ) (kid : List ℕ) (g : Generation) → AllOnce gs → slice_get gs i ≡ Some g → SameKey session kid g → 0 < g.number → claims_in gs (map (ended i) ss) ≡ revoked session kid (claims_in gs ss)
claims_ended gs [] i session kid g once at same big = refl
claims_ended gs (s ∷ ss) i session kid g once at same big =
    rw (ended_in gs i s.key_at session kid g s once at same big, claims_ended gs ss i session kid g once at same big) (filter_some session kid (slot_claim gs s) (claims_in gs ss))

behind_less : (o : Option Generation) (n : ℕ) (b : Bool) → SlotBehind o n → SlotBehind o (if b then 0 else n)
behind_less None n b behind = absurd behind
behind_less (Some g) n true behind = omega arith
behind_less (Some g) n false behind = behind

pub kept_ended : (gs : List Generation) (ss : List Slot) (i : ℕ) → SlotsKept gs ss → SlotsKept gs (map (ended i) ss)
kept_ended gs ss i kept = record { once = kept.once; behind = go ss kept.behind } where
  go : (ss : List Slot) → AllBehind gs ss → AllBehind gs (map (ended i) ss)
  go [] all = tt
  go (s ∷ ss) all = (behind_less (slice_get gs s.key_at) s.generation (eqb s.key_at i) all.0, go ss all.1)

pub key_there : (gs : List Generation) (i session : ℕ) (kid : List ℕ) (g : Generation) → KeyPlace gs session kid (Some i) → slice_get gs i ≡ Some g → SameKey session kid g
key_there gs i session kid g place at =
    let e : get_or gs i g ≡ g = cc (slice_get-get_or gs i g place.0) in
    of_same session kid g (rw e at (place.1 g))

pub bumps : (gs : List Generation) (i : ℕ) (g : Generation) → i < length gs → g ≡ get_or gs i g → Bumps gs i true (slice_set gs i (bumped g))
bumps gs i g lt e = (g, slice_get-get_or gs i g lt ∙ ap Some (sym e), refl)
