-- Which answer is due, by the words and by the disk and the shelf as they were at entry.
use Rattle.std.specs.Prelude.{ℕ, ◌≡◌, ◌≤◌, ◌<◌, ◌⊎◌, List, [], length, IsTrue, Option, Some, None, Result, Ok, Err}
use Rattle.eme_types.specs.declared.limits.TheConstants.{MAX_KEY_SET_BYTES}
use Rattle.vault_disk.specs.Disk.{DiskState, Rose}
use Rattle.eme_edge.specs.Shelf.{ShelfState}
use Rattle.eme_edge.specs.Shelf as shelf
use Rattle.eme_edge.specs.declared.words.UsageFault.{UsageFault}
use Rattle.key_vault.specs.declared.stored.VaultRecord.{VaultRecord}
use Rattle.key_vault.specs.declared.fault.VaultFault.{VaultFault}
use Rattle.key_vault.specs.File.{IsBroken}
use Rattle.key_vault.specs.Opening.{IsReplayed}
use Rattle.vault_tool.specs.declared.outcome.VaultKind.TheVariants.{NotEmpty}
use Rattle.vault_tool.specs.declared.outcome.VaultOutcome.{VaultOutcome}
use Rattle.vault_tool.specs.declared.outcome.VaultOutcome.TheVariants.{Done, Usage, Refused, NotVault, TooLarge, ReadFault, OutOfMemory}
use Rattle.vault_tool.specs.Words.{Asked}
use Rattle.vault_tool.specs.Words as asked
use Rattle.vault_tool.specs.Calls.{Call, judged}
use Rattle.vault_tool.specs.Calls as call
use Rattle.vault_tool.specs.Outcomes.{fault_outcome}

-- the answer to a call that the rules judge so
abbrev pub due_of : Result (Unit {0}) VaultFault → VaultOutcome
due_of (Ok accepted) = Done
due_of (Err fault) = fault_outcome fault

-- this file is a vault, and this the answer by its rules
pub record IsJudged (file : List ℕ) (made : Call) (outcome : VaultOutcome) : Type 0 where
  pub records : List VaultRecord
  pub gate : ℕ
  pub found : IsReplayed file records gate
  pub is : outcome ≡ due_of (judged made records gate)

-- this file is no vault, by the gate at this place
pub record IsNoVault (file : List ℕ) (outcome : VaultOutcome) : Type 0 where
  pub place : ℕ
  pub broken : IsBroken file place
  pub is : outcome ≡ NotVault place

-- the answer that is due to a call on this file
abbrev pub IsDue : List ℕ → Call → VaultOutcome → Type 0
IsDue file made outcome = IsJudged file made outcome ⊎ IsNoVault file outcome

-- the answer that is due where a vault is to be made
abbrev pub IsDueToCreate : List ℕ → VaultOutcome → Type 0
IsDueToCreate file outcome = ((file ≡ []) × (outcome ≡ Done)) ⊎ ((0 < length file) × (outcome ≡ Refused NotEmpty))

-- the answer that is due to a store, by its licence file
abbrev pub IsDueToStore : List ℕ → List ℕ → Option (List ℕ) → VaultOutcome → Type 0
IsDueToStore file label None outcome = outcome ≡ ReadFault
IsDueToStore file label (Some licence) outcome =
    ((MAX_KEY_SET_BYTES < length licence) × (outcome ≡ TooLarge)) ⊎ ((length licence ≤ MAX_KEY_SET_BYTES) × IsDue file (call.Store label licence) outcome)

-- the answer that is due to what is asked for, on this file and on a shelf that tells its files
abbrev pub IsDueTo : ShelfState → List ℕ → Asked → VaultOutcome → Type 0
IsDueTo s file asked.Create outcome = IsDueToCreate file outcome
IsDueTo s file (asked.Store label name) outcome = IsTrue s.tells_files × IsDueToStore file label (s.file name) outcome
IsDueTo s file (asked.Load label) outcome = IsDue file (call.Load label) outcome
IsDueTo s file (asked.Release label) outcome = IsDue file (call.Release label) outcome
IsDueTo s file (asked.Ack label) outcome = IsDue file (call.Ack label) outcome

module _ {D : Type 0} (state : D → DiskState) (may_leave : D → List ℕ → Type 0) (left_since : D → ℕ → List ℕ → Type 0) (old new : D) (s t : ShelfState) where
  -- disk and shelf made no fault
  pub record NoFault : Type 0 where
    pub disk : Rose (state old).faults (state new).faults → ⊥
    pub reads : shelf.Rose s.read_faults t.read_faults → ⊥
    pub writes : shelf.Rose s.write_faults t.write_faults → ⊥

  -- on a disk that tells its bytes, and without a fault, the answer is the one that is due, unless memory is missing
  abbrev pub IsExact : Result Asked UsageFault → VaultOutcome → Type 0
  IsExact (Err bad) outcome = outcome ≡ Usage bad
  IsExact (Ok what) outcome = IsTrue (state old).tells → NoFault → (due : VaultOutcome) → IsDueTo s (state old).seen what due → (outcome ≡ due) ⊎ (outcome ≡ OutOfMemory)
