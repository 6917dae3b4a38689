-- The files that a play writes.
use Rattle.std.specs.Prelude.{ℕ, ◌≢◌, ◌<◌, List, [], ◌∷◌, ◌++◌, length, map, codes, slice_index_or}
use Rattle.std.specs.Fmt.{decimal}
use Rattle.eme_types.specs.declared.entry.Entry.{Entry}
use Rattle.output_order.specs.Log.{log_of}
use Rattle.output_order.specs.TrackFile.{file_of}
use Rattle.player_cli.specs.FileText.{FileText}

-- the name of the log
abbrev pub log_name : List ℕ → List ℕ
log_name prefix = prefix ++ codes ".log"

-- the name of the file of a track
abbrev pub track_name : List ℕ → ℕ → List ℕ
track_name prefix id = prefix ++ (codes "." ++ decimal id)

-- the log of a history
abbrev pub log_file : List ℕ → List ℕ → List Entry → FileText
log_file prefix ids h = record { name = log_name prefix; text = log_of ids h }

-- the file of a track of a history
abbrev pub track_file : List ℕ → List ℕ → List Entry → ℕ → FileText
track_file prefix ids h id = record { name = track_name prefix id; text = file_of ids h id }

-- the files of a history in the order of their writing: the log, then one for each track
abbrev pub files_of : List ℕ → List ℕ → List Entry → List FileText
files_of prefix ids h = log_file prefix ids h ∷ map (track_file prefix ids h) ids

-- the k-th of the files
abbrev pub file_at : List FileText → ℕ → FileText
file_at files k = slice_index_or files k (record { name = []; text = [] })

-- no name stands twice
abbrev pub HaveDistinctNames : List FileText → Type 0
HaveDistinctNames files = (i j : ℕ) → i < j → j < length files → (file_at files i).name ≢ (file_at files j).name
