-- The files that a command reads: scripts, media, tables of keys and licence requests.
use Rattle.std.specs.Prelude.{ℕ, ◌≡◌, ◌≤◌, ◌⊎◌, List, [], ◌∷◌, length, IsTrue, Some, None, Ok, Err}
use Rattle.eme_types.specs.declared.limits.TheConstants.{MAX_SCRIPT_BYTES, MAX_MEDIA_BYTES}
use Rattle.license_desk.specs.declared.limits.TheConstants.{MAX_DESK_BYTES, MAX_REQUEST_BYTES}
use Rattle.license_desk.specs.declared.fault.DeskKind.{DeskKind}
use Rattle.license_desk.specs.Rows.{Row}
use Rattle.license_desk.specs.Table.{desk_of}
use Rattle.eme_types.specs.declared.media.Media.{Media}
use Rattle.eme_edge.specs.Shelf.{ShelfState}
use Rattle.script_lang.specs.declared.script.Line.{Line}
use Rattle.script_lang.specs.declared.fault.ScriptKind.{ScriptKind}
use Rattle.script_lang.specs.Grammar.{script_of}
use Rattle.track_media.specs.declared.kind.MediaKind.{MediaKind}
use Rattle.track_media.specs.declared.kind.MediaFault.TheVariants.{Refused}
use Rattle.track_media.specs.File.{media_of}
use Rattle.seal_media.specs.declared.fault.SealFault.{SealFault}
use Rattle.seal_media.specs.declared.fault.SealFault.TheVariants as unsealed
use Rattle.seal_media.specs.Refusals.{refusal}
use Rattle.seal_media.specs.Answers.{IsRefused}
use Rattle.player_cli.specs.Command.{SealNames}
use Rattle.player_cli.specs.ReadAll.{ReadEnds}
use Rattle.player_cli.specs.declared.outcome.SealKind.{SealKind}
use Rattle.player_cli.specs.declared.outcome.SealKind.TheVariants as seal
use Rattle.player_cli.specs.declared.end.ScriptEnd.{ScriptEnd}
use Rattle.player_cli.specs.declared.end.ScriptEnd.TheVariants as script_end
use Rattle.player_cli.specs.declared.end.MediaEnd.{MediaEnd}
use Rattle.player_cli.specs.declared.end.MediaEnd.TheVariants as media_end
use Rattle.player_cli.specs.declared.end.DeskEnd.{DeskEnd}
use Rattle.player_cli.specs.declared.end.DeskEnd.TheVariants as desk_end
use Rattle.player_cli.specs.declared.read.ReadEnd.{ReadEnd}
use Rattle.player_cli.specs.declared.end.Refusal.{Refusal}
use Rattle.player_cli.specs.declared.end.Refusal.TheVariants.{Script as NoScript, Media as NoMedia, Desk as NoDesk, Request as NoRequest, Seal as NotSealed, OutOfMemory}

-- the file of that name, where the shelf tells it, has these bytes
abbrev pub Tells : ShelfState → List ℕ → List ℕ → Type 0
Tells s name bytes = IsTrue s.tells_files → s.file name ≡ Some bytes

-- the file was read and is this script
pub record ScriptRead (old : ShelfState) (name : List ℕ) (script : List Line) : Type 0 where
  pub bytes : List ℕ
  pub told : Tells old name bytes
  pub small : length bytes ≤ MAX_SCRIPT_BYTES
  pub fits : script_of bytes ≡ Ok script

-- the file was read and is a script
pub record ReadsScript (old : ShelfState) (name : List ℕ) : Type 0 where
  pub script : List Line
  pub read : ScriptRead old name script

-- the file was read, and this is its first broken line with its first broken rule
pub record ScriptFails (old : ShelfState) (name : List ℕ) (line : ℕ) (kind : ScriptKind) : Type 0 where
  pub bytes : List ℕ
  pub told : Tells old name bytes
  pub small : length bytes ≤ MAX_SCRIPT_BYTES
  pub refused : script_of bytes ≡ Err (line, kind)

-- the file was read and is this media
pub record MediaRead (old : ShelfState) (name : List ℕ) (media : Media) : Type 0 where
  pub bytes : List ℕ
  pub told : Tells old name bytes
  pub small : length bytes ≤ MAX_MEDIA_BYTES
  pub fits : media_of bytes ≡ Ok media

-- the file was read and is a media
pub record ReadsMedia (old : ShelfState) (name : List ℕ) : Type 0 where
  pub media : Media
  pub read : MediaRead old name media

-- the file was read, and this is its first broken rule with its place
pub record MediaFails (old : ShelfState) (name : List ℕ) (place : ℕ) (kind : MediaKind) : Type 0 where
  pub bytes : List ℕ
  pub told : Tells old name bytes
  pub small : length bytes ≤ MAX_MEDIA_BYTES
  pub refused : media_of bytes ≡ Err (Refused place kind)

-- the file was read and is a table of keys with these rows
pub record DeskRead (old : ShelfState) (name : List ℕ) (rows : List Row) : Type 0 where
  pub bytes : List ℕ
  pub told : Tells old name bytes
  pub small : length bytes ≤ MAX_DESK_BYTES
  pub fits : desk_of bytes ≡ Ok rows

-- the file was read and is a table of keys
pub record ReadsDesk (old : ShelfState) (name : List ℕ) : Type 0 where
  pub rows : List Row
  pub read : DeskRead old name rows

-- the file was read, and this is its first broken line with its first broken rule
pub record DeskFails (old : ShelfState) (name : List ℕ) (line : ℕ) (kind : DeskKind) : Type 0 where
  pub bytes : List ℕ
  pub told : Tells old name bytes
  pub small : length bytes ≤ MAX_DESK_BYTES
  pub refused : desk_of bytes ≡ Err (line, kind)

-- the file was read, and these are the bytes of the request
pub record RequestRead (old : ShelfState) (name bytes : List ℕ) : Type 0 where
  pub told : Tells old name bytes
  pub small : length bytes ≤ MAX_REQUEST_BYTES

-- the file was read; whether it is a request, its answer says
pub record ReadsRequest (old : ShelfState) (name : List ℕ) : Type 0 where
  pub bytes : List ℕ
  pub read : RequestRead old name bytes

-- the file was read and is media that may be sealed
pub record ReadsClear (old : ShelfState) (names : SealNames) : Type 0 where
  pub media : Media
  pub read : MediaRead old names.media media
  pub allowed : refusal names.plan media ≡ None

-- how the command ends where media are not sealed
abbrev pub seal_refusal : SealFault → Refusal
seal_refusal (unsealed.HasInit fragment) = NotSealed seal.HasInit
seal_refusal (unsealed.Protected fragment track) = NotSealed seal.Protected
seal_refusal unsealed.TooLarge = NotSealed seal.TooLarge
seal_refusal unsealed.OutOfMemory = OutOfMemory

-- the file was read and is media that were not sealed: they break this rule first, or memory ran out
pub record SealFails (old : ShelfState) (names : SealNames) (fault : SealFault) : Type 0 where
  pub media : Media
  pub read : MediaRead old names.media media
  pub refused : IsRefused names.plan media fault

-- what each end of the reading of a script says
abbrev pub ScriptEnds : ScriptEnd → ShelfState → ShelfState → List ℕ → Type 0
ScriptEnds (script_end.Unread end) old new name = ReadEnds end old new name MAX_SCRIPT_BYTES
ScriptEnds (script_end.Refused line kind) old new name = ScriptFails old name line kind

-- what each end of the reading of a media file says
abbrev pub MediaEnds : MediaEnd → ShelfState → ShelfState → List ℕ → Type 0
MediaEnds (media_end.Unread end) old new name = ReadEnds end old new name MAX_MEDIA_BYTES
MediaEnds (media_end.Refused place kind) old new name = MediaFails old name place kind

-- what each end of the reading of a table of keys says
abbrev pub DeskEnds : DeskEnd → ShelfState → ShelfState → List ℕ → Type 0
DeskEnds (desk_end.Unread end) old new name = ReadEnds end old new name MAX_DESK_BYTES
DeskEnds (desk_end.Refused line rule) old new name = DeskFails old name line rule

-- a file that a command reads, by its name
pub data Input : Type 0 where
  ScriptFile : List ℕ → Input
  MediaFile : List ℕ → Input
  DeskFile : List ℕ → Input
  RequestFile : List ℕ → Input
  -- media that are to be sealed
  ClearFile : SealNames → Input

-- the file was read, and is what it is to be
abbrev pub IsTaken : ShelfState → Input → Type 0
IsTaken s (ScriptFile name) = ReadsScript s name
IsTaken s (MediaFile name) = ReadsMedia s name
IsTaken s (DeskFile name) = ReadsDesk s name
IsTaken s (RequestFile name) = ReadsRequest s name
IsTaken s (ClearFile names) = ReadsClear s names

-- the reading of this file has ended the command
abbrev pub InputEnds : Input → Refusal → ShelfState → ShelfState → Type 0
InputEnds (ScriptFile name) refusal old new = (end : ScriptEnd) × (refusal ≡ NoScript end) × ScriptEnds end old new name
InputEnds (MediaFile name) refusal old new = (end : MediaEnd) × (refusal ≡ NoMedia end) × MediaEnds end old new name
InputEnds (DeskFile name) refusal old new = (end : DeskEnd) × (refusal ≡ NoDesk end) × DeskEnds end old new name
InputEnds (RequestFile name) refusal old new = (end : ReadEnd) × (refusal ≡ NoRequest end) × ReadEnds end old new name MAX_REQUEST_BYTES
InputEnds (ClearFile names) refusal old new = ((end : MediaEnd) × (refusal ≡ NoMedia end) × MediaEnds end old new names.media) ⊎ ((fault : SealFault) × (refusal ≡ seal_refusal fault) × SealFails old names fault)

-- of the files, read in this order, the first that was not taken has ended the command; where each was taken, memory was missing
abbrev pub FirstEnds : List Input → Refusal → ShelfState → ShelfState → Type 0
FirstEnds [] refusal old new = refusal ≡ OutOfMemory
FirstEnds (input ∷ more) refusal old new = InputEnds input refusal old new ⊎ (IsTaken old input × FirstEnds more refusal old new)

-- where a command reads no file, no file was read
abbrev pub Unread : List Input → ShelfState → ShelfState → Type 0
Unread [] old new = new.read_faults ≡ old.read_faults
Unread (input ∷ more) old new = Unit {0}

-- the shelf tells its files, and this one is there with these bytes, no more than the limit
pub record HasFile (s : ShelfState) (name : List ℕ) (limit : ℕ) : Type 0 where
  pub tells : IsTrue s.tells_files
  pub bytes : List ℕ
  pub is : s.file name ≡ Some bytes
  pub small : length bytes ≤ limit

-- the file is a script
pub record HasScript (s : ShelfState) (name : List ℕ) : Type 0 where
  pub file : HasFile s name MAX_SCRIPT_BYTES
  pub script : List Line
  pub fits : script_of file.bytes ≡ Ok script

-- the file is a media
pub record HasMedia (s : ShelfState) (name : List ℕ) : Type 0 where
  pub file : HasFile s name MAX_MEDIA_BYTES
  pub media : Media
  pub fits : media_of file.bytes ≡ Ok media

-- the file is a table of keys
pub record HasDesk (s : ShelfState) (name : List ℕ) : Type 0 where
  pub file : HasFile s name MAX_DESK_BYTES
  pub rows : List Row
  pub fits : desk_of file.bytes ≡ Ok rows

-- the file is media that may be sealed
pub record HasClear (s : ShelfState) (names : SealNames) : Type 0 where
  pub has : HasMedia s names.media
  pub allowed : refusal names.plan has.media ≡ None

-- the file is in its grammar and limits, on a shelf that tells its files
abbrev pub HasInput : ShelfState → Input → Type 0
HasInput s (ScriptFile name) = HasScript s name
HasInput s (MediaFile name) = HasMedia s name
HasInput s (DeskFile name) = HasDesk s name
HasInput s (RequestFile name) = HasFile s name MAX_REQUEST_BYTES
HasInput s (ClearFile names) = HasClear s names

-- each of the files is
abbrev pub HasInputs : ShelfState → List Input → Type 0
HasInputs s [] = Unit {0}
HasInputs s (input ∷ more) = HasInput s input × HasInputs s more
