-- A file by its name, and its text.
use Rattle.std.specs.Prelude.{ℕ, List}

-- a file that is to be written
pub record FileText : Type 0 where
  pub name : List ℕ
  pub text : List ℕ
