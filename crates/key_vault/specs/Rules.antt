-- Which commands a vault accepts, and the first rule that another breaks.
use Rattle.std.specs.Prelude.{ℕ, ◌+◌, ◌≡◌, ◌≢◌, nat_le, Bool, true, false, is_ok, is_none, IsOk, List, length, Option, Some, None, Result, Ok, Err}
use Rattle.eme_types.specs.FirstFault.{◌>>=◌, demanded}
use Rattle.clearkey_json.specs.KeySet.{key_set}
use Rattle.key_vault.specs.declared.stored.VaultRecord.{VaultRecord}
use Rattle.key_vault.specs.declared.stored.VaultRecord.TheVariants.{Held, Releasing}
use Rattle.key_vault.specs.declared.command.Command.{Command}
use Rattle.key_vault.specs.declared.command.Command.TheVariants.{Store, Release, Ack}
use Rattle.key_vault.specs.declared.fault.VaultFault.{VaultFault}
use Rattle.key_vault.specs.declared.fault.VaultFault.TheVariants.{MustReopen, Label, Licence, Exists, Unknown, NotHeld, NotReleasing, Full, Disk, OutOfMemory}
use Rattle.key_vault.specs.declared.limits.TheConstants.{MAX_VAULT_BYTES}
use Rattle.key_vault.specs.Label.{is_label}
use Rattle.key_vault.specs.Bytes.{command_bytes}
use Rattle.key_vault.specs.Records.{record_of}

-- the gate, the length and a command of n bytes, and the next gate, end within the limit
abbrev pub fits : ℕ → ℕ → Bool
fits gate n = nat_le (gate + 5 + n + 1) MAX_VAULT_BYTES

-- the licence of a record that has to be there and held
abbrev pub held : Option VaultRecord → Result (List ℕ) VaultFault
held None = Err Unknown
held (Some (Held label licence)) = Ok licence
held (Some (Releasing label kids)) = Err NotHeld

-- the record has to be there and being released
abbrev pub releasing : Option VaultRecord → Result (Unit {0}) VaultFault
releasing None = Err Unknown
releasing (Some (Held label licence)) = Err NotReleasing
releasing (Some (Releasing label kids)) = Ok tt

-- the licence that is held under a label, or the first rule that is broken
abbrev pub loaded : List VaultRecord → List ℕ → Result (List ℕ) VaultFault
loaded records label = do
  named ← demanded Label (is_label label)
  held (record_of label records)

-- whether the command is accepted behind these records at that gate, or the first rule that it breaks
abbrev pub allowed : Command → List VaultRecord → ℕ → Result (Unit {0}) VaultFault
allowed (Store label licence) records gate = do
  named ← demanded Label (is_label label)
  read ← demanded Licence (is_ok (key_set licence))
  fresh ← demanded Exists (is_none (record_of label records))
  demanded Full (fits gate (length (command_bytes (Store label licence))))
allowed (Release label) records gate = do
  licence ← loaded records label
  demanded Full (fits gate (length (command_bytes (Release label))))
allowed (Ack label) records gate = do
  named ← demanded Label (is_label label)
  there ← releasing (record_of label records)
  demanded Full (fits gate (length (command_bytes (Ack label))))

-- the answer is Ok where the rules allow the call, else the first broken rule; want of memory alone is free
abbrev pub Obeys : {T A : Type 0} → Result A VaultFault → Result T VaultFault → Type 0
Obeys rules (Ok x) = IsOk rules
Obeys rules (Err MustReopen) = ⊥
Obeys rules (Err Disk) = ⊥
Obeys rules (Err OutOfMemory) = Unit {0}
Obeys rules (Err fault) = rules ≡ Err fault

-- the same, but where the rules allow it the disk may fail
abbrev pub ObeysOrFails : {T A : Type 0} → Result A VaultFault → Result T VaultFault → Type 0
ObeysOrFails rules (Ok x) = IsOk rules
ObeysOrFails rules (Err MustReopen) = ⊥
ObeysOrFails rules (Err Disk) = IsOk rules
ObeysOrFails rules (Err OutOfMemory) = Unit {0}
ObeysOrFails rules (Err fault) = rules ≡ Err fault
