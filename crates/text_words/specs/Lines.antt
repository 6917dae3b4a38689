-- The lines of a text. Each ends with a line feed, which the last may lack.
use Rattle.std.specs.Prelude.{ℕ, ◌==◌, Bool, if◌then◌else◌, List, [], ◌∷◌}
use Rattle.std.specs.List.{onto_first}

-- the byte ends a line
abbrev pub is_line_feed : ℕ → Bool
is_line_feed b = b == 10

-- a line feed ends a line; any other byte stands in front of the line that follows
abbrev pub lines_of : List ℕ → List (List ℕ)
lines_of [] = []
lines_of (b ∷ text) = if is_line_feed b then [] ∷ lines_of text else onto_first b (lines_of text)
