-- The items of a list, by index, in a list of which it is the front.
use Rattle.std.proofs.Common.{zero, suc, ◌≡◌, ℕ, List, [], ◌∷◌, ◌++◌, length, take, Some, refl, ap}
use Rattle.std.specs.Prelude.{slice_get}

-- what stands at an index stays where more is added behind it
pub get_left : {A : Type 0} (xs ys : List A) (n : ℕ) (x : A) → slice_get xs n ≡ Some x → slice_get (xs ++ ys) n ≡ Some x
get_left [] ys n x at = absurd cc
get_left (y ∷ xs) ys zero x at = at
get_left (y ∷ xs) ys (suc n) x at = get_left xs ys n x at

-- the first item behind a front stands at its length
pub get_here : {A : Type 0} (xs : List A) (x : A) (ys : List A) → slice_get (xs ++ x ∷ ys) (length xs) ≡ Some x
get_here [] x ys = refl
get_here (z ∷ xs) x ys = get_here xs x ys

-- what stands before an item stays where more is added behind
pub take_left : {A : Type 0} (xs ys : List A) (n : ℕ) (x : A) → slice_get xs n ≡ Some x → take n (xs ++ ys) ≡ take n xs
take_left [] ys n x at = absurd cc
take_left (y ∷ xs) ys zero x at = refl
take_left (y ∷ xs) ys (suc n) x at = ap (λ zs. y ∷ zs) (take_left xs ys n x at)
