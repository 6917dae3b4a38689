-- Which refusals are passed over.
use Rattle.std.specs.Prelude.{Result, Ok, Err}
use Rattle.key_vault.specs.declared.fault.VaultFault.{VaultFault}
use Rattle.key_vault.specs.declared.fault.VaultFault.TheVariants.{MustReopen, Disk, OutOfMemory}

-- want of memory, the disk's failure and a reopening that is due are no refusal by a rule
abbrev pub passed : Result (Unit {0}) VaultFault → Result (Unit {0}) VaultFault
passed (Ok x) = Ok tt
passed (Err MustReopen) = Err MustReopen
passed (Err Disk) = Err Disk
passed (Err OutOfMemory) = Err OutOfMemory
passed (Err fault) = Ok tt
