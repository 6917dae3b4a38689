-- What is answered for each fault of a vault, and the exit status of each answer.
use Rattle.std.specs.Prelude.{ℕ, Result, Ok, Err}
use Rattle.key_vault.specs.declared.fault.OpenFault.{OpenFault}
use Rattle.key_vault.specs.declared.fault.OpenFault.TheVariants as opening
use Rattle.key_vault.specs.declared.fault.VaultFault.{VaultFault}
use Rattle.key_vault.specs.declared.fault.VaultFault.TheVariants as fault
use Rattle.vault_tool.specs.declared.outcome.VaultKind.{VaultKind}
use Rattle.vault_tool.specs.declared.outcome.VaultKind.TheVariants.{NotEmpty, Label, Licence, Exists, Unknown, NotHeld, NotReleasing, Full}
use Rattle.vault_tool.specs.declared.outcome.VaultOutcome.{VaultOutcome}
use Rattle.vault_tool.specs.declared.outcome.VaultOutcome.TheVariants.{Done, Usage, Refused, NotVault, DiskFault, TooLarge, ReadFault, WriteFault, OutOfMemory}

-- the exit status of each outcome
abbrev pub status_of : VaultOutcome → ℕ
status_of Done = 0
status_of (Usage bad) = 2
status_of (Refused kind) = 3
status_of (NotVault place) = 4
status_of DiskFault = 5
status_of TooLarge = 6
status_of ReadFault = 7
status_of WriteFault = 8
status_of OutOfMemory = 9

-- the answer where a disk became no vault
abbrev pub open_outcome : OpenFault → VaultOutcome
open_outcome opening.NotEmpty = Refused NotEmpty
open_outcome (opening.NotVault place) = NotVault place
open_outcome opening.Disk = DiskFault
open_outcome opening.OutOfMemory = OutOfMemory

-- the answer where a vault refuses; one that was just opened asks for no reopening
abbrev pub fault_outcome : VaultFault → VaultOutcome
fault_outcome fault.MustReopen = DiskFault
fault_outcome fault.Label = Refused Label
fault_outcome fault.Licence = Refused Licence
fault_outcome fault.Exists = Refused Exists
fault_outcome fault.Unknown = Refused Unknown
fault_outcome fault.NotHeld = Refused NotHeld
fault_outcome fault.NotReleasing = Refused NotReleasing
fault_outcome fault.Full = Refused Full
fault_outcome fault.Disk = DiskFault
fault_outcome fault.OutOfMemory = OutOfMemory

-- what a call gives, or what is answered
abbrev pub answer_of : {T : Type 0} → Result T VaultFault → Result T VaultOutcome
answer_of (Ok text) = Ok text
answer_of (Err why) = Err (fault_outcome why)
