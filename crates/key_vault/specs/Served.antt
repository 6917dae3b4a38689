-- A list of commands given to a vault, one after the other.
use Rattle.std.specs.Prelude.{ℕ, ◌≡◌, ◌⊎◌, is_ok, if◌then◌else◌, List, [], ◌∷◌, ◌++◌, length, take, OnOk, Result, Ok, Err}
use Rattle.vault_disk.specs.Disk.{DiskState}
use Rattle.key_vault.specs.declared.command.Command.{Command}
use Rattle.key_vault.specs.declared.fault.VaultFault.{VaultFault}
use Rattle.key_vault.specs.declared.vault.KeyVault.{KeyVault}
use Rattle.key_vault.specs.Records.{vault}
use Rattle.key_vault.specs.Rules.{allowed}
use Rattle.key_vault.specs.File.{file_of, IsVault}
use Rattle.key_vault.specs.Crash.{HasGate, StandsFor, Leaves, HasFault}

-- the command, where it is accepted behind these
abbrev pub if_accepted : List Command → Command → List Command
if_accepted cs c = if is_ok (allowed c (vault cs) (length (file_of cs))) then c ∷ [] else []

-- those that are accepted, each behind the ones before it
abbrev pub accepted : List Command → List Command → List Command
accepted cs [] = []
accepted cs (c ∷ more) = if_accepted cs c ++ accepted (cs ++ if_accepted cs c) more

-- the file stands for the commands from before, and for some of the accepted ones behind them, none skipped
abbrev pub HasFront : List Command → List Command → List ℕ → Type 0
HasFront cs more file = (n : ℕ) × IsVault file (cs ++ take n (accepted cs more))

module _ {D : Type 0} (state : D → DiskState) (may_leave : D → List ℕ → Type 0) (left_since : D → ℕ → List ℕ → Type 0) where
  -- what it does to give the vault these commands
  pub record Serves (old new : KeyVault D) (commands : List Command) (result : Result (Unit {0}) VaultFault) : Type 0 where
    pub gate : HasGate (state new.disk) new.gate new.must_reopen
    -- all that were accepted are acknowledged
    pub acknowledged : OnOk result ((cs : List Command) → StandsFor state may_leave left_since old cs → StandsFor state may_leave left_since new (cs ++ accepted cs commands))
    -- a crash at any moment leaves a front of them
    pub any_moment : (cs : List Command) → StandsFor state may_leave left_since old cs → Leaves state may_leave left_since old.disk new.disk (HasFront cs commands)
    pub cause : HasFault state may_leave left_since old.disk new.disk result
