-- The pieces of a text between the bytes of one value.
use Rattle.std.specs.Prelude.{ℕ, ◌==◌, Bool, true, false, List, []}
use Rattle.std.specs.List.{slice_split}

-- what stands between the bytes of one value, in order
abbrev pub cut : ℕ → List ℕ → List (List ℕ)
cut at text = slice_split (λ b. b == at) text

-- what is left of a walk over the pieces: all of them, or none
abbrev pub pieces_left : Bool → ℕ → List ℕ → List (List ℕ)
pieces_left true at text = cut at text
pieces_left false at text = []
