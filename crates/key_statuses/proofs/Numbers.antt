-- Ascending numbers with one more, and with one less.
use Rattle.std.proofs.Common.{zero, suc, ◌≡◌, ◌≢◌, ℕ, ◌+◌, ◌<◌, ◌≤◌, Bool, true, false, not, cond, if◌then◌else◌, List, [], ◌∷◌, length, get_or, take, filter, insert, refl, ap, arith, add-one, nat_lt, nat_eq, lt-ltb, le-ltb, eq-eqb, ne_eqb, ◌⊎◌, inl, inr}
use Rattle.std.proofs.lemmas.Bool.Decides.{Decides-ltb, Decides-eqb, not_from_Decides}
use Rattle.std.specs.List.{AllByRecursion}
use Rattle.key_statuses.specs.Index.{with_number, without_number, AreAscending}
use Rattle.key_statuses.specs.Loops.{AreLess}

-- before a greater number
pub place_at : (xs : List ℕ) (n i d : ℕ) → i < length xs → AreLess (take i xs) n → n < get_or xs i d → insert xs i n ≡ with_number n xs
place_at [] n i d lt less is = absurd (omega arith)
place_at (x ∷ xs) n zero d lt less is = rw (le-ltb x n (omega (arith, is)), ne_eqb x n (λ e. omega (arith, is, e))) refl
place_at (x ∷ xs) n (suc i) d lt less is = rw less.0 (ap (λ ys. x ∷ ys) (place_at xs n i d (omega arith) less.1 is))

-- a number that is there
pub place_taken : (xs : List ℕ) (n i d : ℕ) → i < length xs → AreLess (take i xs) n → get_or xs i d ≡ n → with_number n xs ≡ xs
place_taken [] n i d lt less is = absurd (omega arith)
place_taken (x ∷ xs) n zero d lt less is = rw (le-ltb x n (omega (arith, is)), eq-eqb x n is) refl
place_taken (x ∷ xs) n (suc i) d lt less is = rw less.0 (ap (λ ys. x ∷ ys) (place_taken xs n i d (omega arith) less.1 is))

-- behind all
pub place_last : (xs : List ℕ) (n : ℕ) → AreLess xs n → insert xs (length xs) n ≡ with_number n xs
place_last [] n less = refl
place_last (x ∷ xs) n less = rw less.0 (ap (λ ys. x ∷ ys) (place_last xs n less.1))

pub less_more : (xs : List ℕ) (n i d : ℕ) → i < length xs → AreLess (take i xs) n → get_or xs i d < n → AreLess (take (i + 1) xs) n
less_more xs n i d lt less is = rw add-one (go xs i lt less is) where
  go : (xs : List ℕ) (i : ℕ) → i < length xs → AreLess (take i xs) n → get_or xs i d < n → AreLess (take (suc i) xs) n
  go [] i lt less is = absurd (omega arith)
  go (x ∷ xs) zero lt less is = (lt-ltb x n is, tt)
  go (x ∷ xs) (suc i) lt less is = (less.0, go xs i (omega arith) less.1 is)

-- each of the numbers is greater
abbrev AreGreater : ℕ → List ℕ → Type 0
AreGreater n xs = AllByRecursion (λ m. n < m) xs

greater_with : (k n : ℕ) (xs : List ℕ) → k < n → AreGreater k xs → AreGreater k (with_number n xs)
greater_with k n [] lt all = (lt, tt)
greater_with k n (x ∷ xs) lt all = go (greater_with k n xs lt all.1) (nat_lt x n) (nat_eq x n) where
  go : AreGreater k (with_number n xs) → (b c : Bool) → AreGreater k (if b then x ∷ with_number n xs else (if c then x ∷ xs else n ∷ (x ∷ xs)))
  go rest true c = (all.0, rest)
  go rest false true = all
  go rest false false = (lt, all)

greater_through : (k n : ℕ) (xs : List ℕ) → k < n → AreGreater n xs → AreGreater k xs
greater_through k n [] lt all = tt
greater_through k n (x ∷ xs) lt all = (omega (arith, lt, all.0), greater_through k n xs lt all.1)

greater_without : (k n : ℕ) (xs : List ℕ) → AreGreater k xs → AreGreater k (without_number n xs)
greater_without k n [] all = tt
greater_without k n (x ∷ xs) all = go (greater_without k n xs all.1) (nat_eq x n) where
  go : AreGreater k (without_number n xs) → (b : Bool) → AreGreater k (cond (not b) (x ∷ without_number n xs) (without_number n xs))
  go rest true = rest
  go rest false = (all.0, rest)

pub with_ascending : (n : ℕ) (xs : List ℕ) → AreAscending xs → AreAscending (with_number n xs)
with_ascending n [] up = (tt, tt)
with_ascending n (x ∷ xs) up = go (with_ascending n xs up.1) (nat_lt x n) refl (nat_eq x n) refl where
  go : AreAscending (with_number n xs) → (b : Bool) → nat_lt x n ≡ b → (c : Bool) → nat_eq x n ≡ c → AreAscending (if b then x ∷ with_number n xs else (if c then x ∷ xs else n ∷ (x ∷ xs)))
  go rest true lt c is = (greater_with x n xs ((Decides-ltb x n).0 lt) up.0, rest)
  go rest false lt true is = up
  go rest false lt false is = (let later : x < n → ⊥ = not_from_Decides (nat_lt x n) (Decides-ltb x n) lt in let other : x ≡ n → ⊥ = not_from_Decides (nat_eq x n) (Decides-eqb x n) is in let less : n < x = omega (arith, later, other) in ((less, greater_through n x xs less up.0), up))

pub without_ascending : (n : ℕ) (xs : List ℕ) → AreAscending xs → AreAscending (without_number n xs)
without_ascending n [] up = tt
without_ascending n (x ∷ xs) up = go (without_ascending n xs up.1) (nat_eq x n) where
  go : AreAscending (without_number n xs) → (b : Bool) → AreAscending (cond (not b) (x ∷ without_number n xs) (without_number n xs))
  go rest true = rest
  go rest false = (greater_without x n xs up.0, rest)

pub with_some : (n : ℕ) (xs : List ℕ) → with_number n xs ≢ []
with_some n [] e = cc
with_some n (x ∷ xs) e = go (nat_lt x n) (nat_eq x n) e where
  go : (b c : Bool) → (if b then x ∷ with_number n xs else (if c then x ∷ xs else n ∷ (x ∷ xs))) ≢ []
  go true c e = cc
  go false true e = cc
  go false false e = cc
