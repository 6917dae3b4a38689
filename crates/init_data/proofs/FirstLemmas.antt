-- Inserting each id in turn keeps the first occurrences.
use Rattle.std.proofs.Common.{◌≡◌, ℕ, ◌+◌, ◌<◌, Bool, true, false, List, [], ◌∷◌, ◌++◌, length, get_or, take, cond, refl, sym, subst, ap, ◌∙◌, append_assoc, arith}
use Rattle.std.specs.Prelude.{not, ◌&&◌, ◌||◌, filter, bytes_eq}
use Rattle.std.specs.List.{list_any}
use Rattle.std.proofs.lemmas.List.{append-nil, take_more}
use Rattle.std.proofs.lemmas.List.Folds.{list_any-append}
use Rattle.std.proofs.lemmas.List.Sums.{fold-append}
use Rattle.std.proofs.lemmas.Slice.Eq.{bytes_eq-Decides}
use Rattle.indexmap.specs.IndexSet.{insert_key, insert_all}
use Rattle.init_data.specs.InitData.{first_occurrences}

-- the id is not among those kept
abbrev is_new : List (List ℕ) → List ℕ → Bool
is_new kept x = not (list_any (bytes_eq x) kept)

abbrev differs : List ℕ → List ℕ → Bool
differs k x = not (bytes_eq k x)

step_twice : (p r : List ℕ → Bool) (x : List ℕ) (ys zs : List (List ℕ)) (b : Bool) → (b && p x) ≡ r x → filter p ys ≡ zs → filter p (cond b (x ∷ ys) ys) ≡ cond (r x) (x ∷ zs) zs
step_twice p r x ys zs true e h = rw (← e, h) refl
step_twice p r x ys zs false e h = rw (← e) h

filtered_twice : (p q r : List ℕ → Bool) → ((x : List ℕ) → (q x && p x) ≡ r x) → (xs : List (List ℕ)) → filter p (filter q xs) ≡ filter r xs
filtered_twice p q r same [] = refl
filtered_twice p q r same (x ∷ xs) = step_twice p r x (filter q xs) (filter r xs) (q x) (same x) (filtered_twice p q r same xs)

same_bool : (a b : Bool) → (a ≡ true → b ≡ true) → (b ≡ true → a ≡ true) → a ≡ b
same_bool true b f g = sym (f refl)
same_bool false true f g = g refl
same_bool false false f g = refl

bytes_eq-sym : (a b : List ℕ) → bytes_eq a b ≡ bytes_eq b a
bytes_eq-sym a b = same_bool (bytes_eq a b) (bytes_eq b a)
    (λ e. (bytes_eq-Decides b a).1 (sym ((bytes_eq-Decides a b).0 e))) (λ e. (bytes_eq-Decides a b).1 (sym ((bytes_eq-Decides b a).0 e)))

-- an id that is kept already
kept_at : (kept : List (List ℕ)) (k x : List ℕ) (b : Bool) → bytes_eq k x ≡ b → list_any (bytes_eq k) kept ≡ true → (not b && is_new kept x) ≡ is_new kept x
kept_at kept k x true e known =
    let same : k ≡ x = (bytes_eq-Decides k x).0 e in
    sym (ap not (subst (λ (y : List ℕ). list_any (bytes_eq y) kept ≡ true) same known))
kept_at kept k x false e known = refl

-- an id that is kept from now on
de_morgan : (a b : Bool) → (not b && not a) ≡ not (a || (b || false))
de_morgan true true = refl
de_morgan true false = refl
de_morgan false true = refl
de_morgan false false = refl

added_at : (kept : List (List ℕ)) (k x : List ℕ) → (differs k x && is_new kept x) ≡ is_new (kept ++ k ∷ []) x
added_at kept k x =
    ap (λ b. not b && is_new kept x) (bytes_eq-sym k x) ∙ de_morgan (list_any (bytes_eq x) kept) (bytes_eq x k)
    ∙ ap not (sym (list_any-append (bytes_eq x) kept (k ∷ [])))

passed_over : (kept : List (List ℕ)) (k : List ℕ) (ys : List (List ℕ)) → list_any (bytes_eq k) kept ≡ true → filter (is_new kept) (k ∷ ys) ≡ filter (is_new kept) ys
passed_over kept k ys e = rw e refl

taken : (kept : List (List ℕ)) (k : List ℕ) (ys : List (List ℕ)) → list_any (bytes_eq k) kept ≡ false → filter (is_new kept) (k ∷ ys) ≡ k ∷ filter (is_new kept) ys
taken kept k ys e = rw e refl

by_test : (kept : List (List ℕ)) (k : List ℕ) (xs ys : List (List ℕ)) (b : Bool) → list_any (bytes_eq k) kept ≡ b
    → insert_all bytes_eq kept xs ≡ kept ++ filter (is_new kept) ys → insert_all bytes_eq (kept ++ k ∷ []) xs ≡ (kept ++ k ∷ []) ++ filter (is_new (kept ++ k ∷ [])) ys
    → insert_all bytes_eq (cond b kept (kept ++ k ∷ [])) xs ≡ kept ++ filter (is_new kept) (k ∷ filter (differs k) ys)
by_test kept k xs ys true e old new =
    old ∙ ap (λ zs. kept ++ zs) (sym (passed_over kept k (filter (differs k) ys) e ∙ filtered_twice (is_new kept) (differs k) (is_new kept) (λ x. kept_at kept k x (bytes_eq k x) refl e) ys))
by_test kept k xs ys false e old new =
    new ∙ append_assoc kept (k ∷ []) (filter (is_new (kept ++ k ∷ [])) ys)
    ∙ ap (λ zs. kept ++ zs) (sym (taken kept k (filter (differs k) ys) e ∙ ap (λ zs. k ∷ zs) (filtered_twice (is_new kept) (differs k) (is_new (kept ++ k ∷ [])) (added_at kept k) ys)))

insert_law : (xs kept : List (List ℕ)) → insert_all bytes_eq kept xs ≡ kept ++ filter (is_new kept) (first_occurrences xs)
unfolding first_occurrences
insert_law [] kept = sym (append-nil kept)
insert_law (k ∷ xs) kept = by_test kept k xs (first_occurrences xs) (list_any (bytes_eq k) kept) refl (insert_law xs kept) (insert_law xs (kept ++ k ∷ []))

all_new : (xs : List (List ℕ)) → filter (is_new []) xs ≡ xs
all_new [] = refl
all_new (x ∷ xs) = ap (λ ys. x ∷ ys) (all_new xs)

pub first_law : (xs : List (List ℕ)) → insert_all bytes_eq [] xs ≡ first_occurrences xs
first_law xs = insert_law xs [] ∙ all_new (first_occurrences xs)

pub inserted : (xs : List (List ℕ)) (i : ℕ) (x copied : List ℕ) (old new : List (List ℕ)) → i < length xs → x ≡ get_or xs i x → copied ≡ x
    → old ≡ insert_all bytes_eq [] (take i xs) → new ≡ insert_key bytes_eq old copied → new ≡ insert_all bytes_eq [] (take (i + 1) xs)
inserted xs i x copied old new lt is same before now =
    let front : take (i + 1) xs ≡ take i xs ++ x ∷ [] = take_more xs i x lt ∙ ap (λ y. take i xs ++ y ∷ []) (sym is) in
    now ∙ ap (λ y. insert_key bytes_eq old y) same ∙ ap (λ ks. insert_key bytes_eq ks x) before
    ∙ sym (ap (insert_all bytes_eq []) front ∙ fold-append (insert_key bytes_eq) [] (take i xs) (x ∷ []))

-- ids leave an id
pub some_first : (kids : List (List ℕ)) → 0 < length kids → 0 < length (first_occurrences kids)
unfolding first_occurrences
some_first [] some = some
some_first (kid ∷ kids) some = omega arith
