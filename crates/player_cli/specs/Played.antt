-- The command `play`: the history that it plays, and the files that it writes.
use Rattle.std.specs.Prelude.{ℕ, ◌≡◌, ◌≤◌, List, [], ◌∷◌, length}
use Rattle.eme_types.specs.declared.entry.Entry.{Entry}
use Rattle.eme_types.specs.declared.media.Media.{Media}
use Rattle.eme_edge.specs.Shelf.{ShelfState}
use Rattle.cdm_state.specs.History.{IsLegal}
use Rattle.cdm_state.specs.Progress.{NoneWaits}
use Rattle.cdm_state.specs.Settlements.{calls_in, settlements}
use Rattle.script_lang.specs.declared.script.Line.{Line}
use Rattle.output_order.specs.Complete.{IsComplete}
use Rattle.output_order.specs.Staffed.{IsStaffed}
use Rattle.output_order.specs.Summary.{summary_of}
use Rattle.player_core.specs.Alone.{IsAlone, IsOneLane}
use Rattle.serial_play.specs.Law.{HasSerialAnswer}
use Rattle.player_cli.specs.Command.{Names}
use Rattle.player_cli.specs.Inputs.{Input, ScriptFile, MediaFile, ScriptRead, MediaRead}
use Rattle.player_cli.specs.FileText.{FileText}
use Rattle.player_cli.specs.Files.{files_of, HaveDistinctNames}
use Rattle.player_cli.specs.Written.{IsWritten, IsStopped}

-- the files that a play reads, in order
abbrev pub play_inputs : Names → List Input
play_inputs names = ScriptFile names.script ∷ MediaFile names.media ∷ []

-- the promise of each call is settled once
abbrev pub SettlesEach : List ℕ → List Entry → Type 0
SettlesEach ids h = (p : ℕ) → 1 ≤ p → p ≤ calls_in h → length (settlements ids h p) ≡ 1

-- what the history of every play is: legal, complete for the script and the media, staffed for the workers; it settles each promise
-- once, and where the script is paced and agreeing it has the answer of the serial play
pub record IsHistory (workers : ℕ) (script : List Line) (media : Media) (history : List Entry) : Type 0 where
  pub legal : IsLegal media.tracks history
  pub complete : IsComplete script media history
  pub staffed : IsStaffed workers history
  pub settled : SettlesEach media.tracks history
  pub serial : HasSerialAnswer script media history

-- with no worker, the history of a script of lane 0 alone is that of one thread
abbrev pub AloneWithout : ℕ → List Line → Media → List Entry → Type 0
AloneWithout workers script media history = workers ≡ 0 → IsOneLane script → IsAlone script media history

-- these are the files and the summary of a history of the play of this script and this media by that many workers
pub record ArePlayed (workers : ℕ) (script : List Line) (media : Media) (prefix : List ℕ) (files : List FileText) (summary : List ℕ) : Type 0 where
  pub history : List Entry
  pub is : IsHistory workers script media history
  pub alone : AloneWithout workers script media history
  pub delivered : NoneWaits history
  pub files_are : files ≡ files_of prefix media.tracks history
  pub summary_is : summary ≡ summary_of media.tracks history
  pub distinct : HaveDistinctNames files

-- both files were read, and this is the history of their play: no claim is open at its end, and with no worker a script of lane 0 alone is
-- played in the order of one thread
pub record IsPlay (old : ShelfState) (names : Names) (media : Media) (history : List Entry) : Type 0 where
  pub script : List Line
  pub script_read : ScriptRead old names.script script
  pub media_read : MediaRead old names.media media
  pub is : IsHistory names.workers script media history
  pub alone : AloneWithout names.workers script media history
  pub delivered : NoneWaits history

-- there is one such history, and its texts are written
pub record HasPlayed (old new : ShelfState) (names : Names) : Type 0 where
  pub media : Media
  pub history : List Entry
  pub play : IsPlay old names media history
  pub written : IsWritten old new (files_of names.prefix media.tracks history) (summary_of media.tracks history)

-- there is one such history, and the writing of its texts has stopped
pub record HasPartlyPlayed (old new : ShelfState) (names : Names) : Type 0 where
  pub media : Media
  pub history : List Entry
  pub play : IsPlay old names media history
  pub stopped : IsStopped old new (files_of names.prefix media.tracks history) (summary_of media.tracks history)
