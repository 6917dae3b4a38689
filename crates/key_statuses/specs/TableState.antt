-- What contracts see of a key table.
use Rattle.std.specs.Prelude.{ℕ, List}
use Rattle.key_statuses.specs.declared.table.KnownKey.{KnownKey}

-- the known ids in order of first grant, and how many more can be granted without taking memory
pub record TableState : Type 0 where
  pub keys : List KnownKey
  pub spare : ℕ
