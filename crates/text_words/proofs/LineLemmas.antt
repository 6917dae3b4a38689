-- The first line of a text.
use Rattle.std.proofs.Common.{◌≡◌, ◌<◌, ◌≤◌, ◌+◌, ℕ, suc, List, [], ◌∷◌, ◌++◌, length, take, drop, get_or, Bool, false, Some, None, refl, ap, sym, ◌∙◌, arith, add-one}
use Rattle.std.specs.Prelude.{position, cond}
use Rattle.std.specs.List.{onto_first, position_or_len}
use Rattle.std.proofs.lemmas.Bool.{eqb-true}
use Rattle.std.proofs.lemmas.List.{take-append-drop, get_or-take, length-take}
use Rattle.std.proofs.Math.Seq.{drop-cons}
use Rattle.std.proofs.lemmas.List.Quantifiers.{position-Some}
use Rattle.std.proofs.lemmas.List.Sums.{fails_before_first}
use borrow.Author.Tests.{ltb-false}
use Rattle.text_words.proofs.PieceLemmas.{no_index}
use Rattle.text_words.specs.Lines.{lines_of, is_line_feed}

-- a line up to its line feed
up_to_feed : (line rest : List ℕ) → ((k : ℕ) → k < length line → is_line_feed (get_or line k 0) ≡ false) → lines_of (line ++ 10 ∷ rest) ≡ line ∷ lines_of rest
up_to_feed [] rest none = refl
up_to_feed (b ∷ line) rest none =
    let head : is_line_feed b ≡ false = none 0 (omega arith) in
    rw (head, up_to_feed line rest (λ k lt. none (suc k) (omega arith))) refl

-- a last line without its line feed
no_feed : (b : ℕ) (line : List ℕ) → ((k : ℕ) → k < length (b ∷ line) → is_line_feed (get_or (b ∷ line) k 0) ≡ false) → lines_of (b ∷ line) ≡ (b ∷ line) ∷ []
no_feed b [] none = let head : is_line_feed b ≡ false = none 0 (omega arith) in rw head refl
no_feed b (c ∷ line) none =
    let head : is_line_feed b ≡ false = none 0 (omega arith) in
    let more : lines_of (c ∷ line) ≡ (c ∷ line) ∷ [] = no_feed c line (λ k lt. none (suc k) (omega arith)) in
    ap (λ (t : Bool). cond t ([] ∷ lines_of (c ∷ line)) (onto_first b (lines_of (c ∷ line)))) head ∙ ap (onto_first b) more

pub first_whole : (text : List ℕ) → 0 < length text → position is_line_feed text ≡ None → lines_of text ≡ text ∷ []
first_whole [] lt e = absurd (omega arith)
first_whole (b ∷ line) lt e =
    let past : length (b ∷ line) ≤ position_or_len is_line_feed (b ∷ line) = ltb-false _ _ (no_index _ _ e) in
    no_feed b line (λ k below. fails_before_first is_line_feed (b ∷ line) k 0 (omega (arith, past, below)))

pub first_up_to : (text : List ℕ) (i : ℕ) → position is_line_feed text ≡ Some i → lines_of text ≡ take i text ∷ lines_of (drop (i + 1) text)
first_up_to text i e =
    let at = position-Some is_line_feed text i 0 e in
    let byte : get_or text i 0 ≡ 10 = eqb-true (get_or text i 0) 10 at.1 in
    let cut : drop i text ≡ 10 ∷ drop (suc i) text = drop-cons text i 0 at.0 ∙ ap (λ b. b ∷ drop (suc i) text) byte in
    let whole : text ≡ take i text ++ 10 ∷ drop (suc i) text = sym (take-append-drop i text) ∙ ap (λ xs. take i text ++ xs) cut in
    rw add-one (ap lines_of whole ∙ up_to_feed (take i text) (drop (suc i) text) (λ k lt.
    let le : k < i = omega (arith, lt, length-take i text) in ap is_line_feed (get_or-take i text k 0 le) ∙ at.2 k le))
