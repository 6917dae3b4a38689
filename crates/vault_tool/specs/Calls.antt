-- What is asked of an open vault: whether it is accepted, what it adds to the commands of the vault, and its text.
use Rattle.std.specs.Prelude.{ℕ, ◌≡◌, List, [], ◌∷◌, Option, Some, None, Result, Ok, Err}
use Rattle.key_vault.specs.declared.stored.VaultRecord.{VaultRecord}
use Rattle.key_vault.specs.declared.command.Command.{Command}
use Rattle.key_vault.specs.declared.command.Command.TheVariants as command
use Rattle.key_vault.specs.declared.fault.VaultFault.{VaultFault}
use Rattle.key_vault.specs.Records.{kids_in}
use Rattle.key_vault.specs.Rules.{loaded, allowed}
use Rattle.key_vault.specs.Texts.{release_text}
use Rattle.vault_tool.specs.declared.call.VaultCall.{VaultCall}
use Rattle.vault_tool.specs.declared.call.VaultCall.TheVariants as made

-- a call, by its label; a store also by the bytes of its licence
pub data Call : Type 0 where
  Store : List ℕ → List ℕ → Call
  Load : List ℕ → Call
  Release : List ℕ → Call
  Ack : List ℕ → Call

-- whether there is one, or why there is none
abbrev pub is_there : Result (List ℕ) VaultFault → Result (Unit {0}) VaultFault
is_there (Ok licence) = Ok tt
is_there (Err fault) = Err fault

-- whether the call is accepted behind these records at that gate, or the first rule that it breaks
abbrev pub judged : Call → List VaultRecord → ℕ → Result (Unit {0}) VaultFault
judged (Store label licence) records gate = allowed (command.Store label licence) records gate
judged (Load label) records gate = is_there (loaded records label)
judged (Release label) records gate = allowed (command.Release label) records gate
judged (Ack label) records gate = allowed (command.Ack label) records gate

-- what it adds to the commands of the vault
abbrev pub added : Call → List Command
added (Store label licence) = command.Store label licence ∷ []
added (Load label) = []
added (Release label) = command.Release label ∷ []
added (Ack label) = command.Ack label ∷ []

-- the licence that is held under the label
abbrev pub IsHeld : List VaultRecord → List ℕ → List ℕ → Type 0
IsHeld records label licence = loaded records label ≡ Ok licence

-- its text: that of a load is the licence, that of a release lists the key ids of the licence, and no other call gives one
abbrev pub IsTextOf : Call → List VaultRecord → Option (List ℕ) → Type 0
IsTextOf (Store label licence) records text = text ≡ None
IsTextOf (Load label) records text = (licence : List ℕ) × IsHeld records label licence × (text ≡ Some licence)
IsTextOf (Release label) records text = (licence : List ℕ) × IsHeld records label licence × (text ≡ Some (release_text (kids_in licence)))
IsTextOf (Ack label) records text = text ≡ None

-- the call that is made
abbrev pub call_of : VaultCall → Call
call_of (made.Store label licence) = Store label.now licence.now
call_of (made.Load label) = Load label.now
call_of (made.Release label) = Release label.now
call_of (made.Ack label) = Ack label.now
