-- A file tells one vault, or none.
use Rattle.std.specs.Prelude.{ℕ, ◌≡◌, List}
use Rattle.key_vault.specs.declared.command.Command.{Command}
use Rattle.key_vault.specs.File.{IsVault, IsBroken}

abbrev pub OneReading : Type 0
OneReading = (file : List ℕ) (cs ds : List Command) → IsVault file cs → IsVault file ds → cs ≡ ds

abbrev pub NeverBroken : Type 0
NeverBroken = (file : List ℕ) (cs : List Command) (place : ℕ) → IsVault file cs → IsBroken file place → ⊥
