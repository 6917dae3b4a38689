-- The first piece of a text.
use Rattle.std.proofs.Common.{◌≡◌, ◌<◌, ◌≤◌, ◌+◌, ℕ, suc, List, [], ◌∷◌, length, take, drop, get_or, Bool, true, false, Some, None, refl, ap, ◌∙◌, arith}
use Rattle.std.specs.Prelude.{position, cond}
use Rattle.std.specs.List.{slice_split, position_or_len}
use Rattle.std.proofs.lemmas.List.Quantifiers.{position-Some}
use Rattle.std.proofs.lemmas.List.Sums.{fails_before_first}
use Rattle.std.proofs.lemmas.List.Splits.{slice_split_first}
use borrow.Author.Tests.{ltb-false}

-- no element passes
up_to_none : (p : ℕ → Bool) (text : List ℕ) → ((k : ℕ) → k < length text → p (get_or text k 0) ≡ false) → slice_split p text ≡ text ∷ []
up_to_none p [] none = refl
up_to_none p (b ∷ text) none =
    let head : p b ≡ false = none 0 (omega arith) in
    rw (head, up_to_none p text (λ k lt. none (suc k) (omega arith))) refl

pub no_index : (t : Bool) (i : ℕ) → cond t (Some i) None ≡ None → t ≡ false
no_index true i e = absurd cc
no_index false i e = refl

some_index : (t : Bool) (n i : ℕ) → cond t (Some n) None ≡ Some i → n ≡ i
some_index true n i e = cc
some_index false n i e = absurd cc

pub one_piece : (p : ℕ → Bool) (text : List ℕ) → position p text ≡ None → slice_split p text ≡ text ∷ []
one_piece p text e =
    let past : length text ≤ position_or_len p text = ltb-false _ _ (no_index _ _ e) in
    up_to_none p text (λ k below. fails_before_first p text k 0 (omega (arith, past, below)))

pub first_piece : (p : ℕ → Bool) (text : List ℕ) (i : ℕ) → position p text ≡ Some i → slice_split p text ≡ take i text ∷ slice_split p (drop (i + 1) text)
first_piece p text i e =
    let same : position_or_len p text ≡ i = some_index _ _ _ e in
    let at = position-Some p text i 0 e in
    slice_split_first p text 0 (omega (arith, same, at.0)) ∙ ap (λ k. take k text ∷ slice_split p (drop (k + 1) text)) same
