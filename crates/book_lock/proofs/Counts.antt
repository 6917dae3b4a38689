-- How often a place stands in a list of places.
use Rattle.std.proofs.Common.{◌≡◌, ℕ, ◌+◌, ◌<◌, ◌≤◌, ◌==◌, ◌≢◌, cond, Bool, List, [], ◌∷◌, ◌++◌, refl, sym, ap, arith, eq-eqb, ne_eqb, lt_of_not-le}
use Rattle.std.proofs.lemmas.List.Sums.{sum_by-append}
use Rattle.std.proofs.lemmas.Bool.Decides.{nat_tests}
use native.Mathlib.Decide.{dec_le}
use Rattle.book_lock.specs.Places.{times, once_to}

pub times-append : (p : ℕ) (xs ys : List ℕ) → times p (xs ++ ys) ≡ times p xs + times p ys
times-append p xs ys = sum_by-append (λ q. cond (q == p) 1 0) xs ys

pub times_here : (p : ℕ) → times p (p ∷ []) ≡ 1
times_here p = ap (λ (b : Bool). 0 + cond {A = ℕ} b 1 0) (eq-eqb p p refl)

pub times_other : (p q : ℕ) → p ≢ q → times p (q ∷ []) ≡ 0
times_other p q ne = ap (λ (b : Bool). 0 + cond {A = ℕ} b 1 0) (ne_eqb q p (λ e. ne (sym e)))

-- who adds a place has it
pub times_last : (p : ℕ) (own : List ℕ) → 0 < times p (own ++ p ∷ [])
times_last p own = omega (arith, times-append p own (p ∷ []), times_here p)

pub once_at : (n p : ℕ) → p ≤ n → once_to p n ≡ 1
once_at n p h = grind (arith, nat_tests)

pub once_above : (n p : ℕ) → n < p → once_to p n ≡ 0
once_above n p h = grind (arith, nat_tests)

pub once_one : (n p : ℕ) → once_to p n ≤ 1
once_one n p = elim (dec_le p n) [ yes h ↦ omega (arith, once_at n p h) | no h ↦ omega (arith, once_above n p (lt_of_not-le h)) ]
