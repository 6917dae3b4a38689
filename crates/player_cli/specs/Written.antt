-- Texts on their way into files.
use Rattle.std.specs.Prelude.{ℕ, ◌≡◌, ◌≢◌, ◌≤◌, ◌<◌, ◌+◌, ◌⊎◌, List, ◌++◌, length, take, IsTrue, Some, Option, Result, IsErrOf}
use Rattle.eme_edge.specs.Shelf.{ShelfState, Files, FilesKept, OthersKept, TellsAlike, Rose, SaidPart}
use Rattle.eme_edge.specs.declared.shelf.ShelfFault.{ShelfFault}
use Rattle.eme_edge.specs.declared.shelf.ShelfFault.TheVariants.{Failed}
use Rattle.player_cli.specs.FileText.{FileText}
use Rattle.player_cli.specs.Files.{file_at}

-- no file has changed and nothing was said
pub record IsUntouched (old new : ShelfState) : Type 0 where
  pub files : FilesKept old.file new.file
  pub said : new.said ≡ old.said

-- the file holds what came before the rest
pub record IsWriting (old new : ShelfState) (name text rest : List ℕ) : Type 0 where
  pub part : List ℕ
  pub whole : part ++ rest ≡ text
  pub file : IsTrue old.tells_files → new.file name ≡ Some part
  pub others : OthersKept old.file new.file name
  pub said : new.said ≡ old.said
  pub tells : TellsAlike old new
  pub later : old.write_faults ≤ new.write_faults
  pub reads : new.read_faults ≡ old.read_faults

-- what a run of several writes says of its faults. Want of memory may follow a call that raised the count and was Ok
pub record WritesCause {T : Type 0} (old new : ShelfState) (result : Result T ShelfFault) : Type 0 where
  pub later : old.write_faults ≤ new.write_faults
  pub reads : new.read_faults ≡ old.read_faults
  pub failed : IsErrOf result Failed → Rose old.write_faults new.write_faults

-- the file is there and holds a front of the text
abbrev pub HoldsFront : List ℕ → Option (List ℕ) → Type 0
HoldsFront text file = (k : ℕ) × (file ≡ Some (take k text))

-- the first n files hold their texts
abbrev pub HasTexts : ShelfState → ShelfState → List FileText → ℕ → Type 0
HasTexts old new files n = IsTrue old.tells_files → (k : ℕ) → k < n → new.file (file_at files k).name ≡ Some (file_at files k).text

-- every file that is none of the first n is as before
abbrev pub KeepsOthers : Files → Files → List FileText → ℕ → Type 0
KeepsOthers old new files n = (name : List ℕ) → ((k : ℕ) → k < n → name ≢ (file_at files k).name) → new name ≡ old name

-- the first n files are written
pub record FilesSoFar (old new : ShelfState) (files : List FileText) (n : ℕ) : Type 0 where
  pub texts : HasTexts old new files n
  pub others : KeepsOthers old.file new.file files n
  pub said : new.said ≡ old.said
  pub tells : TellsAlike old new
  pub later : old.write_faults ≤ new.write_faults
  pub reads : new.read_faults ≡ old.read_faults

-- the start of file n failed: those before hold their texts, and none behind it was touched
pub record StopsAtStart (old new : ShelfState) (files : List FileText) : Type 0 where
  pub n : ℕ
  pub within : n < length files
  pub texts : HasTexts old new files n
  pub others : KeepsOthers old.file new.file files (n + 1)
  pub said : new.said ≡ old.said
  pub tells : TellsAlike old new

-- an append to file n failed: it holds a front of its text
pub record StopsInText (old new : ShelfState) (files : List FileText) : Type 0 where
  pub n : ℕ
  pub within : n < length files
  pub texts : HasTexts old new files n
  pub front : IsTrue old.tells_files → HoldsFront (file_at files n).text (new.file (file_at files n).name)
  pub others : KeepsOthers old.file new.file files (n + 1)
  pub said : new.said ≡ old.said
  pub tells : TellsAlike old new

-- all files hold their texts, and a front of the summary was said
pub record StopsAtSummary (old new : ShelfState) (files : List FileText) (summary : List ℕ) : Type 0 where
  pub texts : HasTexts old new files (length files)
  pub others : KeepsOthers old.file new.file files (length files)
  pub said : IsTrue old.tells_said → SaidPart old.said summary new.said
  pub tells : TellsAlike old new

-- the writing of these texts has stopped
abbrev pub IsStopped : ShelfState → ShelfState → List FileText → List ℕ → Type 0
IsStopped old new files summary = (StopsAtStart old new files ⊎ StopsInText old new files) ⊎ StopsAtSummary old new files summary

-- the files hold their texts, the summary was said, and every other file is as before
pub record IsWritten (old new : ShelfState) (files : List FileText) (summary : List ℕ) : Type 0 where
  pub texts : HasTexts old new files (length files)
  pub others : KeepsOthers old.file new.file files (length files)
  pub said : IsTrue old.tells_said → new.said ≡ old.said ++ summary
  pub tells : TellsAlike old new
