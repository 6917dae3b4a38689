-- The file of a licence, which has no more bytes than a key set may have.
use Rattle.std.specs.Prelude.{ℕ, ◌≡◌, ◌≤◌, ◌<◌, ◌⊎◌, List, length, IsTrue, Some, IsNone}
use Rattle.eme_types.specs.declared.limits.TheConstants.{MAX_KEY_SET_BYTES}
use Rattle.eme_edge.specs.Shelf.{ShelfState, Rose}
use Rattle.vault_tool.specs.declared.licence.LicenceEnd.{LicenceEnd}
use Rattle.vault_tool.specs.declared.licence.LicenceEnd.TheVariants as licence
use Rattle.vault_tool.specs.declared.outcome.VaultOutcome.{VaultOutcome}
use Rattle.vault_tool.specs.declared.outcome.VaultOutcome.TheVariants.{TooLarge, ReadFault, OutOfMemory}

-- the file was read, and these are its bytes
pub record LicenceRead (old : ShelfState) (name bytes : List ℕ) : Type 0 where
  pub told : IsTrue old.tells_files → old.file name ≡ Some bytes
  pub small : length bytes ≤ MAX_KEY_SET_BYTES

-- the file has more bytes than that, where the shelf tells
abbrev pub HasMore : ShelfState → List ℕ → Type 0
HasMore s name = IsTrue s.tells_files → (bytes : List ℕ) × (s.file name ≡ Some bytes) × (MAX_KEY_SET_BYTES < length bytes)

-- the read count rose, or the file is not there
abbrev pub HasReadCause : ShelfState → ShelfState → List ℕ → Type 0
HasReadCause old new name = Rose old.read_faults new.read_faults ⊎ (IsTrue old.tells_files × IsNone (old.file name))

-- what each end of a reading says that gave no licence
abbrev pub LicenceEnds : LicenceEnd → ShelfState → ShelfState → List ℕ → Type 0
LicenceEnds licence.TooLarge old new name = HasMore old name
LicenceEnds licence.Fault old new name = HasReadCause old new name
LicenceEnds licence.OutOfMemory old new name = Unit {0}

-- the answer where the file gave no licence
abbrev pub end_outcome : LicenceEnd → VaultOutcome
end_outcome licence.TooLarge = TooLarge
end_outcome licence.Fault = ReadFault
end_outcome licence.OutOfMemory = OutOfMemory
