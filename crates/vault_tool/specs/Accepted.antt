-- What the vault on a disk answers to a call, and what it leaves on the disk. What is said of content holds where the disk tells it.
use Rattle.std.specs.Prelude.{ℕ, ◌≡◌, ◌<◌, ◌⊎◌, List, [], ◌++◌, length, IsTrue, Option, Result, Ok, Err}
use Rattle.vault_disk.specs.Disk.{DiskState, Rose}
use Rattle.key_vault.specs.declared.stored.VaultRecord.{VaultRecord}
use Rattle.key_vault.specs.declared.command.Command.{Command}
use Rattle.key_vault.specs.declared.fault.VaultFault.{VaultFault}
use Rattle.key_vault.specs.File.{IsBroken}
use Rattle.key_vault.specs.Opening.{IsReplayed, WritesNothing, Untouched}
use Rattle.key_vault.specs.Crash.{Rests, Leaves}
use Rattle.vault_tool.specs.declared.outcome.VaultKind.{VaultKind}
use Rattle.vault_tool.specs.declared.outcome.VaultKind.TheVariants as kind
use Rattle.vault_tool.specs.declared.outcome.VaultOutcome.{VaultOutcome}
use Rattle.vault_tool.specs.declared.outcome.VaultOutcome.TheVariants.{Done, Usage, Refused, NotVault, DiskFault, TooLarge, ReadFault, WriteFault, OutOfMemory}
use Rattle.vault_tool.specs.Calls.{Call, judged, added, IsTextOf}
use Rattle.vault_tool.specs.Called.{IsWithOrWithout}
use Rattle.vault_tool.specs.Outcomes.{fault_outcome}

module _ {D : Type 0} (state : D → DiskState) (may_leave : D → List ℕ → Type 0) (left_since : D → ℕ → List ℕ → Type 0) where
  -- these are the records of the vault that the disk gives, and the place of its closed gate
  abbrev pub Finds : D → List VaultRecord → ℕ → Type 0
  Finds disk records gate = IsTrue (state disk).tells → IsReplayed (state disk).seen records gate

  -- the disk is the vault of these commands, and so is what a crash leaves
  abbrev pub HoldsVault : D → List Command → Type 0
  HoldsVault disk commands = (gate : ℕ) × Rests (state disk) (may_leave disk) gate commands

  -- a crash at any moment since old leaves what it might have left then, or the vault with the commands from before, with the new one
  -- or without
  abbrev pub LeavesVault : D → D → List Command → Call → Type 0
  LeavesVault old new commands call = Leaves state may_leave left_since old new (λ file. may_leave old file ⊎ IsWithOrWithout commands (added call) file)

  -- the vault on the disk accepted the call, has it, and gave this text
  pub record Accepted (old new : D) (call : Call) (text : Option (List ℕ)) : Type 0 where
    pub records : List VaultRecord
    pub gate : ℕ
    pub found : Finds old records gate
    pub accepted : judged call records gate ≡ Ok tt
    pub gives : IsTextOf call records text
    pub holds : (told : IsTrue (state old).tells) → HoldsVault new ((found told).commands ++ added call)
    pub any_moment : (told : IsTrue (state old).tells) → LeavesVault old new (found told).commands call

  -- the call breaks a rule of the vault on the disk, which is as before
  pub record Breaks (old new : D) (call : Call) (kind : VaultKind) : Type 0 where
    pub records : List VaultRecord
    pub gate : ℕ
    pub found : Finds old records gate
    pub fault : VaultFault
    pub broken : judged call records gate ≡ Err fault
    pub named : fault_outcome fault ≡ Refused kind
    pub kept : WritesNothing state may_leave left_since old new

  -- the disk is no vault, by the gate at this place, and is as before
  pub record HasNoVault (old new : D) (place : ℕ) : Type 0 where
    pub broken : IsTrue (state old).tells → IsBroken (state old).seen place
    pub kept : WritesNothing state may_leave left_since old new

  -- the vault on the disk accepted the call, and the disk failed in it
  pub record Interrupted (old new : D) (call : Call) : Type 0 where
    pub records : List VaultRecord
    pub gate : ℕ
    pub found : Finds old records gate
    pub accepted : judged call records gate ≡ Ok tt
    pub any_moment : (told : IsTrue (state old).tells) → LeavesVault old new (found told).commands call

  -- the disk's count rose: nothing was written yet, or the call was interrupted
  pub record Fails (old new : D) (call : Call) : Type 0 where
    pub rose : Rose (state old).faults (state new).faults
    pub left : WritesNothing state may_leave left_since old new ⊎ Interrupted old new call

  -- why a call was not accepted, or not carried out
  abbrev pub Refuses : D → D → Call → VaultOutcome → Type 0
  Refuses old new call Done = ⊥
  Refuses old new call (Usage bad) = ⊥
  Refuses old new call (Refused kind) = Breaks old new call kind
  Refuses old new call (NotVault place) = HasNoVault old new place
  Refuses old new call DiskFault = Fails old new call
  Refuses old new call TooLarge = ⊥
  Refuses old new call ReadFault = ⊥
  Refuses old new call WriteFault = ⊥
  Refuses old new call OutOfMemory = WritesNothing state may_leave left_since old new

  -- what the vault on a disk answers to a call
  abbrev pub AnswersWith : D → D → Call → Result (Option (List ℕ)) VaultOutcome → Type 0
  AnswersWith old new call (Ok text) = Accepted old new call text
  AnswersWith old new call (Err outcome) = Refuses old new call outcome

  -- an empty disk has become a vault without a record
  pub record IsCreated (old new : D) : Type 0 where
    pub empty : IsTrue (state old).tells → (state old).seen ≡ []
    pub holds : IsTrue (state old).tells → HoldsVault new []

  -- no vault is made on a disk with a byte, which is as before
  abbrev pub RefusesKind : D → D → VaultKind → Type 0
  RefusesKind old new kind.NotEmpty = (IsTrue (state old).tells → 0 < length (state old).seen) × Untouched state may_leave left_since old new
  RefusesKind old new other = ⊥

  -- what is answered where a vault is to be made. A crash before the making is done may leave anything
  abbrev pub CreatesWith : D → D → VaultOutcome → Type 0
  CreatesWith old new Done = IsCreated old new
  CreatesWith old new (Usage bad) = ⊥
  CreatesWith old new (Refused kind) = RefusesKind old new kind
  CreatesWith old new (NotVault place) = ⊥
  CreatesWith old new DiskFault = Rose (state old).faults (state new).faults
  CreatesWith old new TooLarge = ⊥
  CreatesWith old new ReadFault = ⊥
  CreatesWith old new WriteFault = ⊥
  CreatesWith old new OutOfMemory = (IsTrue (state old).tells → (state old).seen ≡ []) × Untouched state may_leave left_since old new
