-- The members of a list that is filtered, joined to another, or longer by one.
use Rattle.std.proofs.Common.{◌≡◌, Bool, true, false, List, [], ◌∷◌, ◌++◌, inl, inr, refl, ◌⊎◌}
use Rattle.std.specs.Prelude.{if◌then◌else◌}
use Rattle.std.specs.List.{filter}
use Rattle.cdm_world.specs.In.{In}
use Rattle.cdm_world.specs.Distinct.{Distinct}

-- what a filter keeps stood in the list and passes
pub In_filter : {A : Type 0} (f : A → Bool) (xs : List A) (x : A) → In (filter f xs) x → In xs x × (f x ≡ true)
In_filter f [] x there = absurd there
In_filter {A} f (y ∷ ys) x there = go (f y) refl there (λ m. In_filter f ys x m) where
  go : (b : Bool) → f y ≡ b → In (if b then y ∷ filter f ys else filter f ys) x → (In (filter f ys) x → In ys x × (f x ≡ true)) → In (y ∷ ys) x × (f x ≡ true)
  go true e (inl same) again = (inl same, rw (← same) e)
  go true e (inr m) again = (let k = again m in (inr k.0, k.1))
  go false e m again = (let k = again m in (inr k.0, k.1))

pub In_left : {A : Type 0} (xs ys : List A) (x : A) → In xs x → In (xs ++ ys) x
In_left [] ys x there = absurd there
In_left (y ∷ xs) ys x (inl e) = inl e
In_left (y ∷ xs) ys x (inr m) = inr (In_left xs ys x m)

pub In_right : {A : Type 0} (xs ys : List A) (x : A) → In ys x → In (xs ++ ys) x
In_right [] ys x there = there
In_right (y ∷ xs) ys x there = inr (In_right xs ys x there)

pub In_either : {A : Type 0} (xs ys : List A) (x : A) → In (xs ++ ys) x → In xs x ⊎ In ys x
In_either [] ys x there = inr there
In_either (y ∷ xs) ys x (inl e) = inl (inl e)
In_either (y ∷ xs) ys x (inr m) = elim (In_either xs ys x m) [ inl h ↦ inl (inr h) | inr h ↦ inr h ]

-- an item of a list with one more is an item of the list, or the one
pub In_more : {A : Type 0} (xs : List A) (x y : A) → In (xs ++ x ∷ []) y → In xs y ⊎ (x ≡ y)
In_more xs x y there = elim (In_either xs (x ∷ []) y there) [ inl m ↦ inl m | inr m ↦ inr (the_one m) ] where
  the_one : In (x ∷ []) y → x ≡ y
  the_one (inl e) = e
  the_one (inr m) = absurd m

-- two lists without repeats that share no item have none together
pub distinct_both : {A : Type 0} (xs ys : List A) → Distinct xs → Distinct ys → ((x : A) → In xs x → In ys x → ⊥) → Distinct (xs ++ ys)
distinct_both [] ys dx dy apart = dy
distinct_both (x ∷ xs) ys dx dy apart =
    (λ there. elim (In_either xs ys x there) [ inl h ↦ dx.0 h | inr h ↦ apart x (inl refl) h ], distinct_both xs ys dx.1 dy (λ y h k. apart y (inr h) k))
