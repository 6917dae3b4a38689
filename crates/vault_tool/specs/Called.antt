-- What a call does to an open vault.
use Rattle.std.specs.Prelude.{ℕ, ◌≡◌, ◌≢◌, ◌⊎◌, List, ◌++◌, Option, Result, IfOk, IfErr, OnOk}
use Rattle.vault_disk.specs.Disk.{DiskState}
use Rattle.key_vault.specs.declared.command.Command.{Command}
use Rattle.key_vault.specs.declared.fault.VaultFault.{VaultFault}
use Rattle.key_vault.specs.declared.fault.VaultFault.TheVariants.{Disk}
use Rattle.key_vault.specs.declared.vault.KeyVault.{KeyVault}
use Rattle.key_vault.specs.File.{IsVault}
use Rattle.key_vault.specs.Crash.{Answers, Kept, StandsFor, Leaves, HasFault}
use Rattle.vault_tool.specs.Calls.{Call, judged, added, IsTextOf}

-- the file stands for the commands, with those behind them or without
abbrev pub IsWithOrWithout : List Command → List Command → List ℕ → Type 0
IsWithOrWithout commands behind file = IsVault file commands ⊎ IsVault file (commands ++ behind)

module _ {D : Type 0} (state : D → DiskState) (may_leave : D → List ℕ → Type 0) (left_since : D → ℕ → List ℕ → Type 0) where
  pub record Called (old new : KeyVault D) (call : Call) (result : Result (Option (List ℕ)) VaultFault) : Type 0 where
    pub answer : Answers old.must_reopen (judged call old.records.items old.gate) result
    pub text : IfOk result (IsTextOf call old.records.items)
    -- a refusal other than the disk's changes nothing
    pub kept : IfErr result (λ fault. fault ≢ Disk → Kept state may_leave left_since old new)
    -- once it is acknowledged, each crash leaves a file that has it
    pub acknowledged : OnOk result ((cs : List Command) → StandsFor state may_leave left_since old cs → StandsFor state may_leave left_since new (cs ++ added call))
    -- a crash at any moment of the call leaves a file with the commands from before it, with the new one or without
    pub any_moment : (cs : List Command) → StandsFor state may_leave left_since old cs → Leaves state may_leave left_since old.disk new.disk (IsWithOrWithout cs (added call))
    pub cause : HasFault state may_leave left_since old.disk new.disk result
