-- What the top call answers for each end of a command.
use Rattle.std.specs.Prelude.{ℕ, Result, Ok, Err}
use Rattle.eme_types.specs.declared.limits.TheConstants.{MAX_SCRIPT_BYTES, MAX_MEDIA_BYTES}
use Rattle.license_desk.specs.declared.limits.TheConstants.{MAX_DESK_BYTES, MAX_REQUEST_BYTES}
use Rattle.eme_edge.specs.declared.shelf.ShelfFault.{ShelfFault}
use Rattle.eme_edge.specs.declared.shelf.ShelfFault.TheVariants.{Failed, OutOfMemory as NoMemory}
use Rattle.player_cli.specs.declared.outcome.Outcome.{Outcome}
use Rattle.player_cli.specs.declared.outcome.Outcome.TheVariants.{ScriptRefused, MediaRefused, DeskRefused, SealRefused, TooLarge, ReadFault, WriteFault, OutOfMemory}
use Rattle.player_cli.specs.declared.outcome.Which.{Which}
use Rattle.player_cli.specs.declared.outcome.Which.TheVariants.{Script as ScriptFile, Media as MediaFile, Desk as DeskFile, Request as RequestFile}
use Rattle.player_cli.specs.declared.read.ReadEnd.{ReadEnd}
use Rattle.player_cli.specs.declared.read.ReadEnd.TheVariants as read
use Rattle.player_cli.specs.declared.end.ScriptEnd.{ScriptEnd}
use Rattle.player_cli.specs.declared.end.ScriptEnd.TheVariants as script
use Rattle.player_cli.specs.declared.end.MediaEnd.{MediaEnd}
use Rattle.player_cli.specs.declared.end.MediaEnd.TheVariants as media
use Rattle.player_cli.specs.declared.end.DeskEnd.{DeskEnd}
use Rattle.player_cli.specs.declared.end.DeskEnd.TheVariants as desk
use Rattle.player_cli.specs.declared.end.Refusal.{Refusal}
use Rattle.player_cli.specs.declared.end.Refusal.TheVariants as refused
use Rattle.player_cli.specs.declared.end.End.{End}
use Rattle.player_cli.specs.declared.end.End.TheVariants.{Whole, Refused, Stopped}

-- the answer where one of the files was not read
abbrev pub read_outcome : Which → ℕ → ReadEnd → Outcome
read_outcome which limit read.TooLarge = TooLarge which limit
read_outcome which limit read.Fault = ReadFault
read_outcome which limit read.OutOfMemory = OutOfMemory

-- the answer where a file gave no script
abbrev pub script_outcome : ScriptEnd → Outcome
script_outcome (script.Unread end) = read_outcome ScriptFile MAX_SCRIPT_BYTES end
script_outcome (script.Refused line kind) = ScriptRefused line kind

-- the answer where a file gave no media
abbrev pub media_outcome : MediaEnd → Outcome
media_outcome (media.Unread end) = read_outcome MediaFile MAX_MEDIA_BYTES end
media_outcome (media.Refused place kind) = MediaRefused place kind

-- the answer where a file gave no table of keys
abbrev pub desk_outcome : DeskEnd → Outcome
desk_outcome (desk.Unread end) = read_outcome DeskFile MAX_DESK_BYTES end
desk_outcome (desk.Refused line rule) = DeskRefused line rule

-- the answer where nothing was written or said
abbrev pub refusal_outcome : Refusal → Outcome
refusal_outcome (refused.Script end) = script_outcome end
refusal_outcome (refused.Media end) = media_outcome end
refusal_outcome (refused.Desk end) = desk_outcome end
refusal_outcome (refused.Request end) = read_outcome RequestFile MAX_REQUEST_BYTES end
refusal_outcome (refused.Seal rule) = SealRefused rule
refusal_outcome refused.OutOfMemory = OutOfMemory

-- the answer of a command whose good end is this
abbrev pub outcome_of : Outcome → End → Outcome
outcome_of good Whole = good
outcome_of good (Refused refusal) = refusal_outcome refusal
outcome_of good (Stopped Failed) = WriteFault
outcome_of good (Stopped NoMemory) = OutOfMemory

-- how a command ends that has nothing left but to write and to say
abbrev pub writing_end : Result (Unit {0}) ShelfFault → End
writing_end (Ok _) = Whole
writing_end (Err fault) = Stopped fault
