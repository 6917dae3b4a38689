-- What is out, sample by sample.
use Rattle.std.proofs.Common.{zero, suc, ◌≡◌, ℕ, ◌+◌, ◌<◌, ◌≤◌, List, [], ◌∷◌, ◌++◌, Some, None, length, take, slice_get, ap, ◌∙◌, sym, append-nil, arith}
use Rattle.std.specs.List.{concat, sum_by}
use Rattle.std.proofs.lemmas.List.{take_more, take_all}
use Rattle.std.proofs.lemmas.List.Folds.{concat-append}
use Rattle.std.proofs.lemmas.List.Sums.{fold_more}
use Rattle.std.proofs.lemmas.Option.{slice_get-get_or, slice_get_within}
use Rattle.eme_types.specs.declared.entry.Entry.{Entry}
use Rattle.eme_types.specs.declared.entry.Entry.TheVariants.{Call}
use Rattle.eme_types.specs.declared.call.Effect.{Effect}
use Rattle.cdm_state.specs.Settlements.{effects_in, is_call}
use Rattle.cdm_state.proofs.Exact.{effects_length}

pub some_same : {A : Type 0} {a b : A} → Some a ≡ Some b → a ≡ b
some_same e = cc

-- nothing at a place: the list ends before it
pub nothing_at : {A : Type 0} (xs : List A) (i : ℕ) → slice_get xs i ≡ None → length xs ≤ i
nothing_at [] i e = omega arith
nothing_at (x ∷ xs) zero e = absurd cc
nothing_at (x ∷ xs) (suc i) e = let le : length xs ≤ i = nothing_at xs i e in omega arith

-- something at a place: the list reaches it
pub something_at : {A : Type 0} (xs : List A) (i : ℕ) (x : A) → slice_get xs i ≡ Some x → i < length xs
something_at xs i x e = slice_get_within xs i x e

pub taken_more : {A : Type 0} (xs : List A) (i : ℕ) (x : A) → slice_get xs i ≡ Some x → take (i + 1) xs ≡ take i xs ++ x ∷ []
taken_more xs i x e =
    let lt : i < length xs = something_at xs i x e in
    take_more xs i x lt ∙ ap (λ y. take i xs ++ y ∷ []) (some_same (sym (slice_get-get_or xs i x lt) ∙ e))

pub concat_more : (xs : List (List ℕ)) (i : ℕ) (x : List ℕ) → slice_get xs i ≡ Some x → concat (take (i + 1) xs) ≡ concat (take i xs) ++ x
concat_more xs i x e = ap concat (taken_more xs i x e) ∙ (concat-append (take i xs) (x ∷ []) ∙ ap (λ (y : List ℕ). concat (take i xs) ++ y) (append-nil x))

pub sum_by_at : {A : Type 0} (f : A → ℕ) (xs : List A) (i : ℕ) (x : A) → slice_get xs i ≡ Some x → sum_by f (take (i + 1) xs) ≡ sum_by f (take i xs) + f x
sum_by_at f xs i x e =
    let lt : i < length xs = something_at xs i x e in
    fold_more (λ a y. a + f y) 0 xs i x lt ∙ ap (λ y. sum_by f (take i xs) + f y) (some_same (sym (slice_get-get_or xs i x lt) ∙ e))

-- what is summed over all entries
pub all_counted : (f : List Effect → ℕ) (ids : List ℕ) (h items : List Entry) (i : ℕ) → items ≡ h → length items ≤ i → sum_by f (take i (effects_in ids h)) ≡ sum_by f (effects_in ids h)
all_counted f ids h items i is le =
    let same : length items ≡ length h = ap length is in
    let many : length (effects_in ids h) ≡ length h = effects_length ids h in
    let all : length (effects_in ids h) ≤ i = omega (arith, same, many, le) in
    ap (sum_by f) (take_all i (effects_in ids h) all)

pub at_most_one_call : (e : Entry) → is_call e ≤ 1
at_most_one_call (Call lane line call) = omega arith
at_most_one_call e = omega arith

-- one item more in a sum
pub counted_more : {A : Type 0} (f : A → ℕ) (xs : List A) (i : ℕ) (x : A) (before now more : ℕ) → slice_get xs i ≡ Some x → before ≡ sum_by f (take i xs) → more ≡ f x → now ≡ before + more → now ≡ sum_by f (take (i + 1) xs)
counted_more f xs i x before now more at sum is e =
    e ∙ (ap (λ n. n + more) sum ∙ (ap (λ n. sum_by f (take i xs) + n) is ∙ sym (sum_by_at f xs i x at)))
