-- The state (FIPS 197, section 3.4): a list of 16 bytes, column by column.
use Rattle.std.specs.Prelude.{ℕ, ◌+◌, ◌*◌, List, [], ◌∷◌, slice_index}

-- the byte of row r and column c
abbrev pub at : List ℕ → ℕ → ℕ → ℕ
at s r c = slice_index s (r + 4 * c)

-- the state whose byte of row r and column c is f r c
abbrev pub state_of : (ℕ → ℕ → ℕ) → List ℕ
state_of f =
    f 0 0 ∷ f 1 0 ∷ f 2 0 ∷ f 3 0 ∷ f 0 1 ∷ f 1 1 ∷ f 2 1 ∷ f 3 1
    ∷ f 0 2 ∷ f 1 2 ∷ f 2 2 ∷ f 3 2 ∷ f 0 3 ∷ f 1 3 ∷ f 2 3 ∷ f 3 3 ∷ []
