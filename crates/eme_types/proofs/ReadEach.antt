-- A list read item by item, in a loop over its places.
use Rattle.std.proofs.Common.{◌≡◌, ℕ, ◌+◌, ◌<◌, ◌≤◌, List, [], ◌∷◌, ◌++◌, length, get_or, drop, map, inl, inr, Result, Ok, Err, refl, ap, ◌∙◌, append_assoc, add-one, drop-cons}
use Rattle.std.specs.Prelude.{◌⊎◌}
use Rattle.std.proofs.Math.ListN.{drop_of_length-le}
use Rattle.std.proofs.lemmas.List.{append-nil}
use Rattle.eme_types.specs.FirstFault.{◌>>=◌, read_each}

-- what was read before, and what is still read
abbrev pub with_front : {B E : Type 0} → List B → Result (List B) E → Result (List B) E
with_front front rest = rest >>= λ ys. Ok (front ++ ys)

-- the items from place i on
pub items_from : {A B : Type 0} (f : A → B) (xs : List A) (i : ℕ) (x : A) → i < length xs → x ≡ get_or xs i x → map f (drop i xs) ≡ f x ∷ map f (drop (i + 1) xs)
items_from f xs i x lt is = rw (add-one, drop-cons xs i x, ← is) refl

abbrev in_ok : {B : Type 0} (E : Type 0) → List B → Result (List B) E
in_ok E ys = Ok ys

module _ {A B E : Type 0} (reader : A → Result B E) where
  regroup : (front : List B) (y : B) (rest : Result (List B) E) → with_front front (rest >>= λ ys. Ok (y ∷ ys)) ≡ with_front (front ++ y ∷ []) rest
  regroup front y (Err e) = refl
  regroup front y (Ok ys) = ap (in_ok E) (simp append_assoc)

  goes_on : (front : List B) (x : A) (xs : List A) (y : B) → reader x ≡ Ok y → with_front front (read_each reader (x ∷ xs)) ≡ with_front (front ++ y ∷ []) (read_each reader xs)
  unfolding read_each
  goes_on front x xs y one = rw one (regroup front y (read_each reader xs))

  stops : (front : List B) (x : A) (xs : List A) (e : E) → reader x ≡ Err e → with_front front (read_each reader (x ∷ xs)) ≡ Err e
  unfolding read_each
  stops front x xs e one = rw one refl

  module _ {D : Type 0} (f : D → A) where
    pub first_read : (xs : List D) → read_each reader (map f xs) ≡ with_front [] (read_each reader (map f xs))
    first_read xs = unchanged (read_each reader (map f xs))
      where
        unchanged : (rest : Result (List B) E) → rest ≡ with_front [] rest
        unchanged (Ok ys) = refl
        unchanged (Err e) = refl

    pub next_read : (xs : List D) (i : ℕ) (x : D) (front : List B) (y : B) (all : Result (List B) E) → i < length xs → x ≡ get_or xs i x → reader (f x) ≡ Ok y
        → all ≡ with_front front (read_each reader (map f (drop i xs))) → all ≡ with_front (front ++ y ∷ []) (read_each reader (map f (drop (i + 1) xs)))
    next_read xs i x front y all lt is one before =
        before ∙ ap (λ zs. with_front front (read_each reader zs)) (items_from f xs i x lt is) ∙ goes_on front (f x) (map f (drop (i + 1) xs)) y one

    -- the fault that stops the reading is that of an item, or want of memory
    pub refused_read : (WantsMemory : E → Type 0) (xs : List D) (i : ℕ) (x : D) (front : List B) (e : E) (all : Result (List B) E) → i < length xs → x ≡ get_or xs i x
        → WantsMemory e ⊎ (reader (f x) ≡ Err e) → all ≡ with_front front (read_each reader (map f (drop i xs))) → WantsMemory e ⊎ (all ≡ Err e)
    refused_read WantsMemory xs i x front e all lt is (inl wants) before = inl wants
    refused_read WantsMemory xs i x front e all lt is (inr one) before =
        inr (before ∙ ap (λ zs. with_front front (read_each reader zs)) (items_from f xs i x lt is) ∙ stops front (f x) (map f (drop (i + 1) xs)) e one)

    pub all_read : (xs : List D) (i : ℕ) (front : List B) (all : Result (List B) E) → length xs ≤ i
        → all ≡ with_front front (read_each reader (map f (drop i xs))) → all ≡ Ok front
    unfolding read_each
    all_read xs i front all past before = before ∙ rw (drop_of_length-le xs past) (ap (in_ok E) (append-nil front))
