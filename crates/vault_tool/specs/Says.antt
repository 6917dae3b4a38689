-- What the answer of the top call says of the disk and of the shelf.
use Rattle.std.specs.Prelude.{ℕ, ◌≡◌, ◌⊎◌, List, Option, Result, Ok, Err}
use Rattle.vault_disk.specs.Disk.{DiskState}
use Rattle.eme_edge.specs.Shelf.{ShelfState, Rose}
use Rattle.eme_edge.specs.declared.shelf.ShelfFault.{ShelfFault}
use Rattle.eme_edge.specs.declared.shelf.ShelfFault.TheVariants.{Failed, OutOfMemory as NoMemory}
use Rattle.eme_edge.specs.declared.words.UsageFault.{UsageFault}
use Rattle.key_vault.specs.Opening.{WritesNothing}
use Rattle.vault_tool.specs.declared.licence.LicenceEnd.{LicenceEnd}
use Rattle.vault_tool.specs.declared.outcome.VaultOutcome.{VaultOutcome}
use Rattle.vault_tool.specs.declared.outcome.VaultOutcome.TheVariants.{Done, Usage, Refused, NotVault, DiskFault, TooLarge, ReadFault, WriteFault, OutOfMemory}
use Rattle.vault_tool.specs.Words.{Asked}
use Rattle.vault_tool.specs.Words as asked
use Rattle.vault_tool.specs.Calls.{Call}
use Rattle.vault_tool.specs.Calls as call
use Rattle.vault_tool.specs.Licence.{LicenceRead, LicenceEnds, end_outcome}
use Rattle.vault_tool.specs.Said.{Unsaid, IsSaid, IsPartlySaid}
use Rattle.vault_tool.specs.Accepted.{Accepted, Breaks, HasNoVault, Fails, CreatesWith}

-- the answer once the text was said, or where saying stopped
abbrev pub outcome_of : Result (Unit {0}) ShelfFault → VaultOutcome
outcome_of (Ok said) = Done
outcome_of (Err Failed) = WriteFault
outcome_of (Err NoMemory) = OutOfMemory

module _ {D : Type 0} (state : D → DiskState) (may_leave : D → List ℕ → Type 0) (left_since : D → ℕ → List ℕ → Type 0) (old new : D) (s t : ShelfState) where
  -- the call was accepted, and its text said
  pub record HasDone (made : Call) : Type 0 where
    pub text : Option (List ℕ)
    pub accepted : Accepted state may_leave left_since old new made text
    pub said : IsSaid text s t

  -- the call was accepted, and the saying of its text has stopped
  pub record HasStopped (made : Call) : Type 0 where
    pub text : Option (List ℕ)
    pub accepted : Accepted state may_leave left_since old new made text
    pub said : IsPartlySaid text s t

  -- what each answer says of a call
  abbrev pub CallSays : Call → VaultOutcome → Type 0
  CallSays made Done = HasDone made
  CallSays made (Usage bad) = ⊥
  CallSays made (Refused kind) = Breaks state may_leave left_since old new made kind × Unsaid s t
  CallSays made (NotVault place) = HasNoVault state may_leave left_since old new place × Unsaid s t
  CallSays made DiskFault = Fails state may_leave left_since old new made × Unsaid s t
  CallSays made TooLarge = ⊥
  CallSays made ReadFault = ⊥
  CallSays made WriteFault = Rose s.write_faults t.write_faults × HasStopped made
  CallSays made OutOfMemory = (WritesNothing state may_leave left_since old new × Unsaid s t) ⊎ HasStopped made

  -- the licence file gave no licence; the disk was not touched, and nothing was said
  pub record HasNoLicence (name : List ℕ) (outcome : VaultOutcome) : Type 0 where
    pub end : LicenceEnd
    pub is : outcome ≡ end_outcome end
    pub ends : LicenceEnds end s t name
    pub disk : new ≡ old
    pub unsaid : Unsaid s t

  -- the licence was read, and this is what the store of it ends with
  pub record StoresLicence (label name : List ℕ) (outcome : VaultOutcome) : Type 0 where
    pub licence : List ℕ
    pub read : LicenceRead s name licence
    pub says : CallSays (call.Store label licence) outcome

  -- a store ends with the reading of its licence, or with that of the vault
  abbrev pub StoreSays : List ℕ → List ℕ → VaultOutcome → Type 0
  StoreSays label name outcome = HasNoLicence name outcome ⊎ StoresLicence label name outcome

  -- no file was read
  abbrev pub Unread : Type 0
  Unread = t.read_faults ≡ s.read_faults

  -- what each answer says, by what is asked for
  abbrev pub AskedSays : Asked → VaultOutcome → Type 0
  AskedSays asked.Create outcome = CreatesWith state may_leave left_since old new outcome × (t ≡ s)
  AskedSays (asked.Store label name) outcome = StoreSays label name outcome
  AskedSays (asked.Load label) outcome = CallSays (call.Load label) outcome × Unread
  AskedSays (asked.Release label) outcome = CallSays (call.Release label) outcome × Unread
  AskedSays (asked.Ack label) outcome = CallSays (call.Ack label) outcome × Unread

  -- what each answer says, by the words: where one is bad, disk and shelf were not touched
  abbrev pub SaysOf : Result Asked UsageFault → VaultOutcome → Type 0
  SaysOf (Err bad) outcome = (outcome ≡ Usage bad) × (new ≡ old) × (t ≡ s)
  SaysOf (Ok what) outcome = AskedSays what outcome
