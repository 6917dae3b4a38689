-- Lists in which no item stands twice.
use Rattle.std.specs.Prelude.{List, [], ◌∷◌}
use Rattle.cdm_world.specs.In.{In}

-- no item stands twice
abbrev pub Distinct : {A : Type 0} → List A → Type 0
Distinct [] = Unit {0}
Distinct (x ∷ xs) = (In xs x → ⊥) × Distinct xs
