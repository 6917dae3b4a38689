-- The commands that say a text: what it is, by what is asked and by the files that are read.
use Rattle.std.specs.Prelude.{ℕ, ◌≡◌, List, [], ◌∷◌, ◌++◌, codes, Result, Ok, Err}
use Rattle.eme_types.specs.declared.entry.Entry.{Entry}
use Rattle.eme_types.specs.declared.media.Media.{Media}
use Rattle.eme_edge.specs.Shelf.{ShelfState}
use Rattle.clearkey_json.specs.Request.{request_text}
use Rattle.init_data.specs.InitData.{kids_of}
use Rattle.init_data.specs.declared.fault.InitFault.{InitFault}
use Rattle.init_data.specs.declared.fault.InitFault.TheVariants.{Invalid, NoKids, OutOfMemory as NoMemory}
use Rattle.script_lang.specs.declared.script.Line.{Line}
use Rattle.script_lang.specs.Grammar.{script_of}
use Rattle.track_media.specs.File.{media_of}
use Rattle.output_order.specs.Summary.{summary_of}
use Rattle.player_core.specs.Alone.{IsAlone}
use Rattle.player_core.specs.Demo.{demo_script, demo_media}
use Rattle.player_core.specs.Inspect.{inspect_text}
use Rattle.license_desk.specs.declared.fault.AnswerFault.{AnswerFault}
use Rattle.license_desk.specs.declared.fault.AnswerFault.TheVariants as answer
use Rattle.license_desk.specs.Rows.{Row}
use Rattle.license_desk.specs.Answer.{given, requested, answer_of}
use Rattle.license_desk.specs.Licence.{IsLicenceFor}
use Rattle.player_cli.specs.Command.{Query, Inspect, Request, Demo, Desk, DeskNames}
use Rattle.player_cli.specs.Inputs.{Input, MediaFile, DeskFile, RequestFile, MediaRead, DeskRead, RequestRead, Unread}
use Rattle.player_cli.specs.Written.{IsWritten, IsStopped}

-- the files that each of these commands reads, in order
abbrev pub inputs_of : Query → List Input
inputs_of (Inspect name) = MediaFile name ∷ []
inputs_of (Request kind bytes) = []
inputs_of (Demo n) = []
inputs_of (Desk names) = DeskFile names.table ∷ (RequestFile names.request ∷ [])

-- `inspect`: the file was read, and the text is what is in the media
pub record IsInspection (s : ShelfState) (name text : List ℕ) : Type 0 where
  pub media : Media
  pub read : MediaRead s name media
  pub is : text ≡ inspect_text media

-- `request`: the line that answers a request for these key ids, which is the licence request, or the rejection of its promise
-- (Encrypted Media Extensions, 'generateRequest'). The definition never gives want of memory
abbrev pub IsAnswer : Result (List (List ℕ)) InitFault → List ℕ → Type 0
IsAnswer (Ok kids) text = text ≡ request_text kids ++ codes "\n"
IsAnswer (Err Invalid) text = text ≡ codes "rejected TypeError\n"
IsAnswer (Err NoKids) text = text ≡ codes "rejected NotSupportedError\n"
IsAnswer (Err NoMemory) text = ⊥

-- `demo`: the text is the summary of the demonstration of this number, played on one thread
pub record IsDemoSummary (n : ℕ) (text : List ℕ) : Type 0 where
  pub script : List Line
  pub script_is : script_of (demo_script n) ≡ Ok script
  pub media : Media
  pub media_is : media_of (demo_media n) ≡ Ok media
  pub history : List Entry
  pub alone : IsAlone script media history
  pub is : text ≡ summary_of media.tracks history

-- `desk`: the line of the licence that a request gets, which is read as the keys of the given rows, usable only within the time of each;
-- or why there is none. The definition never gives want of memory
abbrev pub IsLicenceLine : Result (List ℕ) AnswerFault → List Row → List ℕ → Type 0
IsLicenceLine (Ok licence) rows text = (text ≡ licence ++ codes "\n") × IsLicenceFor rows licence
IsLicenceLine (Err answer.Invalid) rows text = text ≡ codes "refused Invalid\n"
IsLicenceLine (Err answer.NoKids) rows text = text ≡ codes "refused NoKids\n"
IsLicenceLine (Err answer.Kind) rows text = text ≡ codes "refused Kind\n"
IsLicenceLine (Err answer.NoKeys) rows text = text ≡ codes "refused NoKeys\n"
IsLicenceLine (Err answer.TooMany) rows text = text ≡ codes "refused TooMany\n"
IsLicenceLine (Err answer.TooLong) rows text = text ≡ codes "refused TooLong\n"
IsLicenceLine (Err answer.OutOfMemory) rows text = ⊥

-- both files were read, and the text is the answer of the table to the request at the moment
pub record IsDeskAnswer (s : ShelfState) (names : DeskNames) (text : List ℕ) : Type 0 where
  pub rows : List Row
  pub table_read : DeskRead s names.table rows
  pub request : List ℕ
  pub request_read : RequestRead s names.request request
  pub is : IsLicenceLine (answer_of rows names.moment request) (given rows names.moment (requested request)) text

-- the text of each of these commands
abbrev pub IsText : ShelfState → Query → List ℕ → Type 0
IsText s (Inspect name) text = IsInspection s name text
IsText s (Request kind bytes) text = IsAnswer (kids_of kind bytes) text
IsText s (Demo n) text = IsDemoSummary n text
IsText s (Desk names) text = IsDeskAnswer s names text

-- the text was said, and no file was written
pub record HasTold (old new : ShelfState) (query : Query) : Type 0 where
  pub text : List ℕ
  pub is : IsText old query text
  pub said : IsWritten old new [] text
  pub unread : Unread (inputs_of query) old new

-- the saying of the text has stopped, and no file was written
pub record HasPartlyTold (old new : ShelfState) (query : Query) : Type 0 where
  pub text : List ℕ
  pub is : IsText old query text
  pub said : IsStopped old new [] text
  pub unread : Unread (inputs_of query) old new
