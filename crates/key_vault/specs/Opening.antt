-- What the making and the opening of a vault do.
use Rattle.std.specs.Prelude.{ℕ, ◌≡◌, ◌<◌, ◌≤◌, List, [], ◌∷◌, ◌++◌, length, false, IsTrue, Result, Ok, Err}
use Rattle.vault_disk.specs.Disk.{DiskState, Only, Unmoved, Rose}
use Rattle.key_vault.specs.declared.stored.VaultRecord.{VaultRecord}
use Rattle.key_vault.specs.declared.command.Command.{Command}
use Rattle.key_vault.specs.declared.fault.OpenFault.{OpenFault}
use Rattle.key_vault.specs.declared.fault.OpenFault.TheVariants.{NotEmpty, NotVault, Disk, OutOfMemory}
use Rattle.key_vault.specs.declared.fault.VaultFault.{VaultFault}
use Rattle.key_vault.specs.declared.fault.VaultFault.TheVariants.{OutOfMemory as NoMemory}
use Rattle.key_vault.specs.declared.vault.KeyVault.{KeyVault}
use Rattle.key_vault.specs.Records.{after, vault}
use Rattle.key_vault.specs.Rules.{allowed}
use Rattle.key_vault.specs.Bytes.{HasCommand}
use Rattle.key_vault.specs.File.{frame, file_of, IsVault, IsBroken}
use Rattle.key_vault.specs.Crash.{Rests, HasGate, StandsFor, Leaves}

-- the records and the gate are those of the commands whose file this is
pub record IsReplayed (file : List ℕ) (records : List VaultRecord) (gate : ℕ) : Type 0 where
  pub commands : List Command
  pub file_is : IsVault file commands
  pub records_are : records ≡ vault commands
  pub at : gate ≡ length (file_of commands)

-- why a file is refused
abbrev pub Refuses : List ℕ → OpenFault → Type 0
Refuses file NotEmpty = ⊥
Refuses file (NotVault place) = IsBroken file place
Refuses file Disk = ⊥
Refuses file OutOfMemory = Unit {0}

-- one frame more was read, and its command was accepted there
pub record IsNext (behind : List ℕ) (old new : List VaultRecord) (gate n : ℕ) : Type 0 where
  pub command : Command
  pub stands : HasCommand behind command n
  pub accepted : allowed command old gate ≡ Ok tt
  pub records : new ≡ after command old

-- why a frame is refused
abbrev pub RefusesFrame : List ℕ → List VaultRecord → ℕ → OpenFault → Type 0
RefusesFrame behind records gate NotEmpty = ⊥
RefusesFrame behind records gate (NotVault place) = (place ≡ gate) × ((c : Command) (more : List ℕ) → allowed c records gate ≡ Ok tt → 1 ∷ behind ≡ frame c ++ more → ⊥)
RefusesFrame behind records gate Disk = ⊥
RefusesFrame behind records gate OutOfMemory = Unit {0}

-- want of memory, or no vault at this gate
abbrev pub refused_as : ℕ → VaultFault → OpenFault
refused_as gate NoMemory = OutOfMemory
refused_as gate fault = NotVault gate

module _ {D : Type 0} (state : D → DiskState) (may_leave : D → List ℕ → Type 0) (left_since : D → ℕ → List ℕ → Type 0) where
  -- nothing was written
  pub record WritesNothing (old new : D) : Type 0 where
    pub tells : (state new).tells ≡ (state old).tells
    pub seen : (state new).seen ≡ (state old).seen
    pub crash : IsTrue (state old).tells → (c : List ℕ) → may_leave new c → may_leave old c
    pub any_moment : IsTrue (state old).tells → Leaves state may_leave left_since old new (may_leave old)
    pub later : (state old).faults ≤ (state new).faults

  -- why the disk was not read
  abbrev pub FailsToRead : D → D → OpenFault → Type 0
  FailsToRead old new NotEmpty = ⊥
  FailsToRead old new (NotVault place) = ⊥
  FailsToRead old new Disk = Rose (state old).faults (state new).faults
  FailsToRead old new OutOfMemory = Unit {0}

  -- why no vault was opened
  abbrev pub RefusesDisk : D → D → OpenFault → Type 0
  RefusesDisk old new NotEmpty = ⊥
  RefusesDisk old new (NotVault place) = IsTrue (state old).tells → IsBroken (state old).seen place
  RefusesDisk old new Disk = Rose (state old).faults (state new).faults
  RefusesDisk old new OutOfMemory = Unit {0}

  -- the disk is as before, but for the room made and the faults
  pub record Untouched (old new : D) : Type 0 where
    pub tells : (state new).tells ≡ (state old).tells
    pub seen : (state new).seen ≡ (state old).seen
    pub crash : Unmoved (may_leave old) (may_leave new) (left_since old) (left_since new)

  -- why no vault was made: on a disk with a byte, and on no other
  abbrev pub RefusesToMake : D → D → OpenFault → Type 0
  RefusesToMake old new NotEmpty = (IsTrue (state old).tells → 0 < length (state old).seen) × Untouched old new
  RefusesToMake old new (NotVault place) = ⊥
  RefusesToMake old new Disk = Rose (state old).faults (state new).faults
  RefusesToMake old new OutOfMemory = (IsTrue (state old).tells → (state old).seen ≡ []) × Untouched old new

  -- a vault without a record, and a gate that is on the disk
  pub record IsMade (old : D) (v : KeyVault D) : Type 0 where
    pub opened : v.must_reopen ≡ false
    pub records : v.records.items ≡ []
    pub gate : HasGate (state v.disk) v.gate v.must_reopen
    pub was_empty : IsTrue (state old).tells → (state old).seen ≡ []
    pub stands : IsTrue (state old).tells → StandsFor state may_leave left_since v []

  -- the vault that the disk tells
  pub record IsOpened (old : D) (v : KeyVault D) : Type 0 where
    pub opened : v.must_reopen ≡ false
    pub gate : HasGate (state v.disk) v.gate v.must_reopen
    pub disk : WritesNothing old v.disk
    pub stands : IsTrue (state old).tells → (cs : List Command) × IsVault (state old).seen cs × StandsFor state may_leave left_since v cs
