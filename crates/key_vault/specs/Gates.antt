-- A gate in a file, and the bytes behind it.
use Rattle.std.specs.Prelude.{ℕ, ◌≡◌, ◌≢◌, ◌⊎◌, List, [], ◌∷◌, ◌++◌}

-- behind the front stands a gate that is not open
abbrev pub IsShut : List ℕ → List ℕ → Type 0
IsShut front file = (gate : ℕ) × (rest : List ℕ) × (gate ≢ 1) × (file ≡ front ++ gate ∷ rest)

-- behind the front stand an open gate and these bytes
abbrev pub IsOpen : List ℕ → List ℕ → List ℕ → Type 0
IsOpen front behind file = (rest : List ℕ) × (file ≡ front ++ (1 ∷ behind ++ rest))

abbrev pub IsShutOrOpen : List ℕ → List ℕ → List ℕ → Type 0
IsShutOrOpen front behind file = IsShut front file ⊎ IsOpen front behind file
