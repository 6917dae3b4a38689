-- What the calls of a vault do, and what a crash may leave at any moment of one.
use Rattle.std.specs.Prelude.{ℕ, ◌+◌, ◌≡◌, ◌≢◌, ◌⊎◌, ◌<◌, ◌≤◌, Bool, true, false, List, [], ◌∷◌, ◌++◌, length, IsTrue, IsOk, IfErr, IfOk, OnOk, OnErr, Result, Ok, Err, IsErrOf}
use Rattle.vault_disk.specs.Disk.{DiskState, Only, Unmoved, LeavesOnly, Rose}
use Rattle.key_vault.specs.declared.stored.VaultRecord.{VaultRecord}
use Rattle.key_vault.specs.declared.command.Command.{Command}
use Rattle.key_vault.specs.declared.fault.VaultFault.{VaultFault}
use Rattle.key_vault.specs.declared.fault.VaultFault.TheVariants.{MustReopen, Disk, OutOfMemory}
use Rattle.key_vault.specs.declared.limits.TheConstants.{MAX_VAULT_BYTES}
use Rattle.key_vault.specs.declared.vault.KeyVault.{KeyVault}
use Rattle.key_vault.specs.Bytes.{behind_gate}
use Rattle.key_vault.specs.Records.{after, vault}
use Rattle.key_vault.specs.Rules.{allowed, ObeysOrFails}
use Rattle.key_vault.specs.File.{frame, file_of, IsVault}

-- the disk tells a vault of these commands, all of it on the disk, whose closed gate stands at this place
pub record Rests (state : DiskState) (may_leave : List ℕ → Type 0) (gate : ℕ) (cs : List Command) : Type 0 where
  pub tells : IsTrue state.tells
  pub file : IsVault state.seen cs
  pub at : gate ≡ length (file_of cs)
  pub durable : Only state.seen may_leave

-- the file stands for the commands, with one more or without it
abbrev pub IsBeforeOrAfter : List Command → Command → List ℕ → Type 0
IsBeforeOrAfter cs c file = IsVault file cs ⊎ IsVault file (cs ++ c ∷ [])

-- the gate ends within the limit, and where no reopening is due a disk that tells has it
pub record HasGate (state : DiskState) (gate : ℕ) (must_reopen : Bool) : Type 0 where
  pub within : gate + 1 ≤ MAX_VAULT_BYTES
  pub inside : must_reopen ≡ false → IsTrue state.tells → gate < length state.seen

-- after a failure of the disk a reopening is due
abbrev pub reopens : {T : Type 0} → Bool → Result T VaultFault → Bool
reopens due (Ok x) = due
reopens due (Err Disk) = true
reopens due (Err fault) = due

-- a call asks for the reopening that is due, and else it follows the rules or fails with the disk
pub record Answers {T A : Type 0} (due : Bool) (rules : Result A VaultFault) (result : Result T VaultFault) : Type 0 where
  pub reopen : due ≡ true → IsErrOf result MustReopen
  pub tried : due ≡ false → ObeysOrFails rules result

module _ {D : Type 0} (state : D → DiskState) (may_leave : D → List ℕ → Type 0) (left_since : D → ℕ → List ℕ → Type 0) where
  -- but for room that was made, the disk is as before
  pub record SameDisk (old new : D) : Type 0 where
    pub others : state new ≡ record (state old) { spare = (state new).spare }
    pub crash : Unmoved (may_leave old) (may_leave new) (left_since old) (left_since new)

  -- the vault is as before
  pub record Kept (old new : KeyVault D) : Type 0 where
    pub records : new.records.items ≡ old.records.items
    pub gate : new.gate ≡ old.gate
    pub must_reopen : new.must_reopen ≡ old.must_reopen
    pub disk : SameDisk old.disk new.disk

  -- the vault stands for these commands, and a crash leaves a file that does
  pub record StandsFor (v : KeyVault D) (cs : List Command) : Type 0 where
    pub opened : v.must_reopen ≡ false
    pub rests : Rests (state v.disk) (may_leave v.disk) v.gate cs
    pub records : v.records.items ≡ vault cs

  -- a crash at any moment since old leaves a file that has P
  abbrev pub Leaves : D → D → (List ℕ → Type 0) → Type 0
  Leaves old new P = LeavesOnly (λ d. (state d).moment) left_since old new P

  -- the disk's failures have a cause
  pub record HasFault {T : Type 0} (old new : D) (result : Result T VaultFault) : Type 0 where
    pub later : (state old).faults ≤ (state new).faults
    pub failed : IsErrOf result Disk → Rose (state old).faults (state new).faults

  -- what a call that gives the vault a command does
  pub record Commits {T : Type 0} (old new : KeyVault D) (c : Command) (result : Result T VaultFault) : Type 0 where
    pub answer : Answers old.must_reopen (allowed c old.records.items old.gate) result
    pub reopen : new.must_reopen ≡ reopens old.must_reopen result
    pub gate : HasGate (state new.disk) new.gate new.must_reopen
    -- a refusal other than the disk's changes nothing
    pub kept : IfErr result (λ fault. fault ≢ Disk → Kept old new)
    pub records : OnOk result (new.records.items ≡ after c old.records.items)
    pub next : OnOk result (new.gate ≡ old.gate + length (frame c))
    -- once it is acknowledged, each crash leaves a file that has it
    pub acknowledged : OnOk result ((cs : List Command) → StandsFor old cs → StandsFor new (cs ++ c ∷ []))
    -- a crash at any moment of the call leaves a file with the commands from before it, with the new one or without
    pub any_moment : (cs : List Command) → StandsFor old cs → Leaves old.disk new.disk (IsBeforeOrAfter cs c)
    pub cause : HasFault old.disk new.disk result

  -- the command is accepted, the records have it, and there is room for its bytes
  pub record Prepared (old new : KeyVault D) (c : Command) (behind : List ℕ) : Type 0 where
    pub accepted : allowed c old.records.items old.gate ≡ Ok tt
    pub bytes : behind ≡ behind_gate c
    pub records : new.records.items ≡ after c old.records.items
    pub gate : new.gate ≡ old.gate
    pub must_reopen : new.must_reopen ≡ old.must_reopen
    pub room : length behind + 3 ≤ (state new.disk).spare
    pub disk : SameDisk old.disk new.disk

  -- the bytes of a command stand behind the gate that was opened, or the disk failed
  pub record Appended (old new : KeyVault D) (behind : List ℕ) (result : Result (Unit {0}) VaultFault) : Type 0 where
    pub fault : IfErr result (λ fault. fault ≡ Disk)
    pub records : new.records.items ≡ old.records.items
    pub gate : HasGate (state new.disk) new.gate new.must_reopen
    pub next : OnOk result (new.gate ≡ old.gate + length behind)
    pub reopen : new.must_reopen ≡ reopens old.must_reopen result
    pub written : OnOk result ((cs : List Command) (c : Command) → behind ≡ behind_gate c → allowed c (vault cs) old.gate ≡ Ok tt
        → Rests (state old.disk) (may_leave old.disk) old.gate cs → Rests (state new.disk) (may_leave new.disk) new.gate (cs ++ c ∷ []))
    pub any_moment : (cs : List Command) (c : Command) → behind ≡ behind_gate c → allowed c (vault cs) old.gate ≡ Ok tt
        → Rests (state old.disk) (may_leave old.disk) old.gate cs → Leaves old.disk new.disk (IsBeforeOrAfter cs c)
    pub cause : HasFault old.disk new.disk result
