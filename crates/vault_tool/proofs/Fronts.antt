-- A front of a text that is said in two pieces.
use Rattle.std.proofs.Common.{◌≡◌, ℕ, ◌+◌, ◌≤◌, min, List, ◌++◌, length, take, refl, sym, ◌∙◌, ap, subst, arith, append_assoc}
use Rattle.std.proofs.lemmas.List.{take-append-le, take_min}
use Rattle.std.proofs.Math.Seq.{take-append-add}
use Rattle.eme_edge.specs.Shelf.{SaidPart}

-- a front of the first piece is one of both
pub of_the_first : (old first second new : List ℕ) → SaidPart old first new → SaidPart old (first ++ second) new
of_the_first old first second new part =
    let k = min part.0 (length first) in
    let whole : take k (first ++ second) ≡ take part.0 first = take-append-le k first second (omega arith) ∙ take_min part.0 first in
    (k, part.1 ∙ ap (λ (l : List ℕ). old ++ l) (sym whole))

-- the first piece and a front of the second are one of both
pub of_the_second : (old first second mid new : List ℕ) → mid ≡ old ++ first → SaidPart mid second new → SaidPart old (first ++ second) new
of_the_second old first second mid new said part = (
  length first + part.0,
  part.1 ∙ ap (λ (l : List ℕ). l ++ take part.0 second) said ∙ append_assoc old first (take part.0 second) ∙ ap (λ (l : List ℕ). old ++ l) (sym (take-append-add first second part.0)),
)
