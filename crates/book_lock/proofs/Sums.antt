-- Sums over a list, and facts of each of its elements.
use Rattle.std.proofs.Common.{◌≡◌, ℕ, zero, suc, ◌+◌, ◌<◌, ◌≤◌, ◌≢◌, ◌⊎◌, List, [], ◌∷◌, ◌++◌, length, set, sym, refl, ap, subst, inl, inr, ⊎_elim, arith}
use Rattle.std.specs.Prelude.{sum_by}
use Rattle.std.proofs.lemmas.List.Sums.{sum_by-cons}
use mathlib.Core.Option.{some, some-injective, some-ne-none}
use lib.ListN.{get_elem?}
use Rattle.atomic_table.proofs.Lists.{at_set, at_snoc}

-- a fact of each element, after one of them was replaced
pub each_set : {A : Type 0} (P : ℕ → A → Type 0) (xs : List A) (me : ℕ) (w : A) → P me w → ((j : ℕ) (d : A) → j ≢ me → get_elem? xs j ≡ some d → P j d)
    → (j : ℕ) (d : A) → get_elem? (set xs me w) j ≡ some d → P j d
each_set {A} P xs me w mine others j d e = ⊎_elim
    (λ (t : (j ≡ me) × (w ≡ d)). subst (λ (x : ℕ × A). P x.0 x.1) (λ i. (sym t.0 i, t.1 i)) mine)
    (λ (t : (j ≢ me) × (get_elem? xs j ≡ some d)). others j d t.0 t.1)
    (at_set xs me j w d e)

-- a fact of each element, after one was added
pub each_snoc : {A : Type 0} (P : A → Type 0) (xs : List A) (a : A) → P a → ((j : ℕ) (d : A) → get_elem? xs j ≡ some d → P d) → (j : ℕ) (d : A) → get_elem? (xs ++ a ∷ []) j ≡ some d → P d
each_snoc {A} P xs a here old j d e = ⊎_elim (λ (t : get_elem? xs j ≡ some d). old j d t) (λ (t : a ≡ d). subst P t here) (at_snoc xs a d j e)

pub first_only : {A : Type 0} (a : A) (i : ℕ) (v : A) → get_elem? (a ∷ []) i ≡ some v → a ≡ v
first_only a zero v e = some-injective a v e
first_only a (suc i) v e = absurd (some-ne-none v (sym e))

pub at_inside : {A : Type 0} (xs : List A) (k : ℕ) (x : A) → get_elem? xs k ≡ some x → k < length xs
at_inside [] k x at = absurd (some-ne-none x (sym at))
at_inside (y ∷ ys) zero x at = omega arith
at_inside (y ∷ ys) (suc k) x at = omega (arith, at_inside ys k x at)

-- an element of a list that is one longer is an old one, or the last
pub at_longer_one : {A : Type 0} (xs : List A) (e : A) (k : ℕ) (x : A) → get_elem? (xs ++ e ∷ []) k ≡ some x → (get_elem? xs k ≡ some x) ⊎ ((k ≡ length xs) × (e ≡ x))
at_longer_one [] e zero x at = inr (refl, some-injective e x at)
at_longer_one [] e (suc k) x at = absurd (some-ne-none x (sym at))
at_longer_one (y ∷ ys) e zero x at = inl at
at_longer_one (y ∷ ys) e (suc k) x at = ⊎_elim (λ h. inl h) (λ h. inr (omega arith, h.1)) (at_longer_one ys e k x at)

module _ {A : Type 0} (f : A → ℕ) where
  pub sum_set : (xs : List A) (i : ℕ) (v w : A) → get_elem? xs i ≡ some v → sum_by f (set xs i w) + f v ≡ sum_by f xs + f w
  sum_set [] i v w e = absurd (some-ne-none v (sym e))
  sum_set (x ∷ xs) zero v w e = let same : f x ≡ f v = ap f (some-injective x v e) in omega (arith, sum_by-cons f x xs, sum_by-cons f w xs)
  sum_set (x ∷ xs) (suc i) v w e = omega (arith, sum_set xs i v w e, sum_by-cons f x xs, sum_by-cons f x (set xs i w))

  pub sum_below : (g : A → ℕ) (xs : List A) → ((i : ℕ) (v : A) → get_elem? xs i ≡ some v → f v ≤ g v) → sum_by f xs ≤ sum_by g xs
  sum_below g [] h = omega arith
  sum_below g (x ∷ xs) h = omega (arith, h 0 x refl, sum_below g xs (λ i v e. h (suc i) v e), sum_by-cons f x xs, sum_by-cons g x xs)

  -- an element weighs no more than all
  pub sum_one : (xs : List A) (i : ℕ) (a : A) → get_elem? xs i ≡ some a → f a ≤ sum_by f xs
  sum_one [] i a at = absurd (some-ne-none a (sym at))
  sum_one (x ∷ xs) zero a at = let here : f x ≡ f a = ap f (some-injective x a at) in omega (arith, sum_by-cons f x xs)
  sum_one (x ∷ xs) (suc i) a at = omega (arith, sum_one xs i a at, sum_by-cons f x xs)

  -- nor do two elements at different places
  pub sum_two : (xs : List A) (i j : ℕ) (a b : A) → i ≢ j → get_elem? xs i ≡ some a → get_elem? xs j ≡ some b → f a + f b ≤ sum_by f xs
  sum_two [] i j a b ne at bt = absurd (some-ne-none a (sym at))
  sum_two (x ∷ xs) zero zero a b ne at bt = absurd (ne refl)
  sum_two (x ∷ xs) zero (suc j) a b ne at bt = let here : f x ≡ f a = ap f (some-injective x a at) in omega (arith, sum_one xs j b bt, sum_by-cons f x xs)
  sum_two (x ∷ xs) (suc i) zero a b ne at bt = let here : f x ≡ f b = ap f (some-injective x b bt) in omega (arith, sum_one xs i a at, sum_by-cons f x xs)
  sum_two (x ∷ xs) (suc i) (suc j) a b ne at bt = omega (arith, sum_two xs i j a b (λ e. ne (ap suc e)) at bt, sum_by-cons f x xs)

  sum_none : (xs : List A) → ((j : ℕ) (d : A) → get_elem? xs j ≡ some d → f d ≡ 0) → sum_by f xs ≡ 0
  sum_none [] h = refl
  sum_none (x ∷ xs) h = omega (arith, h 0 x refl, sum_none xs (λ j d e. h (suc j) d e), sum_by-cons f x xs)

  -- where the others weigh nothing, one element weighs as much as all
  pub sum_alone : (xs : List A) (i : ℕ) (a : A) → get_elem? xs i ≡ some a → ((j : ℕ) (d : A) → j ≢ i → get_elem? xs j ≡ some d → f d ≡ 0) → sum_by f xs ≡ f a
  sum_alone [] i a at h = absurd (some-ne-none a (sym at))
  sum_alone (x ∷ xs) zero a at h = let here : f x ≡ f a = ap f (some-injective x a at) in omega (arith, sum_none xs (λ j d e. h (suc j) d (λ z. omega arith) e), sum_by-cons f x xs)
  sum_alone (x ∷ xs) (suc i) a at h = omega (arith, h 0 x (λ z. omega arith) refl, sum_alone xs i a at (λ j d ne e. h (suc j) d (λ z. ne (omega arith)) e), sum_by-cons f x xs)
