-- What was said, and that no file was written.
use Rattle.std.specs.Prelude.{ℕ, ◌≡◌, ◌≤◌, List, ◌++◌, codes, IsTrue, Option, Some, None}
use Rattle.eme_edge.specs.Shelf.{ShelfState, FilesKept, TellsAlike, SaidPart}

-- nothing was said
pub record Unsaid (old new : ShelfState) : Type 0 where
  pub files : FilesKept old.file new.file
  pub said : new.said ≡ old.said
  pub tells : TellsAlike old new
  pub later : old.read_faults ≤ new.read_faults
  pub writes : new.write_faults ≡ old.write_faults

-- this was said
pub record HasSaid (old new : ShelfState) (text : List ℕ) : Type 0 where
  pub files : FilesKept old.file new.file
  pub said : IsTrue old.tells_said → new.said ≡ old.said ++ text
  pub tells : TellsAlike old new
  pub later : old.read_faults ≤ new.read_faults
  pub writes : new.write_faults ≡ old.write_faults

-- a front of this was said
pub record HasPartlySaid (old new : ShelfState) (text : List ℕ) : Type 0 where
  pub files : FilesKept old.file new.file
  pub said : IsTrue old.tells_said → SaidPart old.said text new.said
  pub tells : TellsAlike old new
  pub later : old.read_faults ≤ new.read_faults
  pub writes_later : old.write_faults ≤ new.write_faults

-- the text of a call was said, with a line feed; without a text nothing was
abbrev pub IsSaid : Option (List ℕ) → ShelfState → ShelfState → Type 0
IsSaid None old new = Unsaid old new
IsSaid (Some text) old new = HasSaid old new (text ++ codes "\n")

-- the saying of the text has stopped
abbrev pub IsPartlySaid : Option (List ℕ) → ShelfState → ShelfState → Type 0
IsPartlySaid None old new = ⊥
IsPartlySaid (Some text) old new = HasPartlySaid old new (text ++ codes "\n")
