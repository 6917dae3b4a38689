-- What a shelf shows of itself, and what its calls do to that.
use Rattle.std.specs.Prelude.{ℕ, ◌≡◌, ◌≢◌, ◌≤◌, ◌+◌, ◌-◌, ◌^◌, min, Bool, List, ◌++◌, length, take, drop, IsTrue, IsOk, IsErrOf, Option, Some, None, IsNone, Result, Ok, Err, ◌⊎◌}
use Rattle.eme_edge.specs.declared.shelf.ShelfFault.{ShelfFault}
use Rattle.eme_edge.specs.declared.shelf.ShelfFault.TheVariants.{Failed, OutOfMemory}

-- a file's bytes by its name; none where there is no such file
abbrev pub Files : Type 0
Files = List ℕ → Option (List ℕ)

-- the files and the bytes said count only where the shelf tells them
pub record ShelfState : Type 0 where
  pub tells_files : Bool
  pub file : Files
  pub tells_said : Bool
  pub said : List ℕ
  pub read_faults : ℕ
  pub write_faults : ℕ

-- the count grew, or stands at the last value of a u64
abbrev pub Rose : ℕ → ℕ → Type 0
Rose before now = min (before + 1) (2 ^ 64 - 1) ≤ now

-- each other file is as before
abbrev pub OthersKept : Files → Files → List ℕ → Type 0
OthersKept old new name = (other : List ℕ) → other ≢ name → new other ≡ old other

-- each file is as before
abbrev pub FilesKept : Files → Files → Type 0
FilesKept old new = (other : List ℕ) → new other ≡ old other

-- whether it tells is as before
pub record TellsAlike (old new : ShelfState) : Type 0 where
  pub files : new.tells_files ≡ old.tells_files
  pub said : new.tells_said ≡ old.tells_said

-- n bytes from that place went to the front of buf; fewer than asked only at the end
pub record ReadsAt (file : List ℕ) (place n : ℕ) (buf : List ℕ) : Type 0 where
  pub count : n ≡ min (length buf) (length file - place)
  pub front : take n buf ≡ take n (drop place file)

-- what a read answers where the files are told
abbrev pub ReadsFile : Option (List ℕ) → ℕ → List ℕ → Result ℕ ShelfFault → Type 0
ReadsFile (Some bytes) place buf (Ok n) = ReadsAt bytes place n buf
ReadsFile None place buf (Ok n) = ⊥
ReadsFile file place buf (Err e) = Unit {0}

-- a read fault is counted exactly where the call answers one, and once
pub record ReadCause (old new : ShelfState) (name : List ℕ) (result : Result ℕ ShelfFault) : Type 0 where
  pub later : old.read_faults ≤ new.read_faults
  pub once : new.read_faults ≤ old.read_faults + 1
  pub answered : IsOk result → new.read_faults ≡ old.read_faults
  pub writes : new.write_faults ≡ old.write_faults
  pub failed : IsErrOf result Failed → Rose old.read_faults new.read_faults ⊎ (IsTrue old.tells_files × IsNone (old.file name))
  pub memory : IsErrOf result OutOfMemory → new.read_faults ≡ old.read_faults
  -- a shelf that tells its files does not count a missing one
  pub missing : IsTrue old.tells_files → IsNone (old.file name) → new.read_faults ≡ old.read_faults

-- a write fault is counted exactly where the call answers one, and once
pub record WriteCause (old new : ShelfState) (result : Result Unit ShelfFault) : Type 0 where
  pub later : old.write_faults ≤ new.write_faults
  pub once : new.write_faults ≤ old.write_faults + 1
  pub answered : IsOk result → new.write_faults ≡ old.write_faults
  pub reads : new.read_faults ≡ old.read_faults
  pub failed : IsErrOf result Failed → Rose old.write_faults new.write_faults
  pub memory : IsErrOf result OutOfMemory → new.write_faults ≡ old.write_faults

-- new holds old and a prefix of the piece
abbrev pub HoldsPart : Option (List ℕ) → List ℕ → Option (List ℕ) → Type 0
HoldsPart (Some old) piece (Some new) = (k : ℕ) × (new ≡ old ++ take k piece)
HoldsPart None piece new = new ≡ None
HoldsPart (Some old) piece None = ⊥

-- new holds old and the piece
abbrev pub HoldsMore : Option (List ℕ) → List ℕ → Option (List ℕ) → Type 0
HoldsMore (Some old) piece new = new ≡ Some (old ++ piece)
HoldsMore None piece new = ⊥

-- a prefix of the piece was added to what was said
abbrev pub SaidPart : List ℕ → List ℕ → List ℕ → Type 0
SaidPart old piece new = (k : ℕ) × (new ≡ old ++ take k piece)
