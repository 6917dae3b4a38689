-- Exit statuses, and the lines on standard error.
use Rattle.std.specs.Prelude.{ℕ, List, [], ◌++◌, codes}
use Rattle.std.specs.Fmt.{decimal}
use Rattle.script_lang.specs.declared.fault.ScriptKind.{ScriptKind}
use Rattle.script_lang.specs.declared.fault.ScriptKind.TheVariants as script
use Rattle.track_media.specs.declared.kind.MediaKind.{MediaKind}
use Rattle.track_media.specs.declared.kind.MediaKind.TheVariants as media
use Rattle.license_desk.specs.declared.fault.DeskKind.{DeskKind}
use Rattle.license_desk.specs.declared.fault.DeskKind.TheVariants as desk
use Rattle.eme_edge.specs.declared.words.UsageKind.{UsageKind}
use Rattle.eme_edge.specs.declared.words.UsageKind.TheVariants.{MissingCommand, UnknownCommand, MissingWord, ExtraWord, BadNumber, BadKind, BadHex, EmptyName, NameClash}
use Rattle.eme_edge.specs.declared.words.UsageFault.{UsageFault}
use Rattle.player_cli.specs.declared.outcome.SealKind.{SealKind}
use Rattle.player_cli.specs.declared.outcome.SealKind.TheVariants as seal
use Rattle.player_cli.specs.declared.outcome.Which.{Which}
use Rattle.player_cli.specs.declared.outcome.Which.TheVariants.{Script, Media, Desk, Request}
use Rattle.player_cli.specs.declared.outcome.Outcome.{Outcome}
use Rattle.player_cli.specs.declared.outcome.Outcome.TheVariants.{Played, Done, Usage, ScriptRefused, MediaRefused, TooLarge, ReadFault, WriteFault, OutOfMemory, DeskRefused, SealRefused}

-- the exit status of each outcome
abbrev pub status_of : Outcome → ℕ
status_of Played = 0
status_of Done = 0
status_of (Usage fault) = 2
status_of (ScriptRefused line kind) = 3
status_of (MediaRefused place rule) = 4
status_of (TooLarge which limit) = 5
status_of ReadFault = 6
status_of WriteFault = 7
status_of OutOfMemory = 8
status_of (SealRefused rule) = 9
status_of (DeskRefused line rule) = 10

-- the name of what is wrong with a word
abbrev pub usage_name : UsageKind → List ℕ
usage_name MissingCommand = codes "MissingCommand"
usage_name UnknownCommand = codes "UnknownCommand"
usage_name MissingWord = codes "MissingWord"
usage_name ExtraWord = codes "ExtraWord"
usage_name BadNumber = codes "BadNumber"
usage_name BadKind = codes "BadKind"
usage_name BadHex = codes "BadHex"
usage_name EmptyName = codes "EmptyName"
usage_name NameClash = codes "NameClash"

-- the name of a broken rule of a script
abbrev pub script_name : ScriptKind → List ℕ
script_name script.NotUtf8 = codes "NotUtf8"
script_name script.Header = codes "Header"
script_name script.TooManyLines = codes "TooManyLines"
script_name script.Lane = codes "Lane"
script_name script.Verb = codes "Verb"
script_name script.LaneKind = codes "LaneKind"
script_name script.Words = codes "Words"
script_name script.Label = codes "Label"
script_name script.DuplicateLabel = codes "DuplicateLabel"
script_name script.Form = codes "Form"
script_name script.Hex = codes "Hex"
script_name script.Number = codes "Number"
script_name script.ClockBack = codes "ClockBack"

-- the name of a broken rule of media
abbrev pub media_name : MediaKind → List ℕ
media_name media.Short = codes "Short"
media_name media.SizeTooSmall = codes "SizeTooSmall"
media_name media.PastEnd = codes "PastEnd"
media_name media.Version = codes "Version"
media_name media.IsProtected = codes "IsProtected"
media_name media.IvSize = codes "IvSize"
media_name media.Pattern = codes "Pattern"
media_name media.Scheme = codes "Scheme"
media_name media.NoTenc = codes "NoTenc"
media_name media.CountDiffers = codes "CountDiffers"
media_name media.NoTrackId = codes "NoTrackId"
media_name media.SecondTrack = codes "SecondTrack"
media_name media.TooManyTracks = codes "TooManyTracks"
media_name media.EntryType = codes "EntryType"
media_name media.AudioVersion = codes "AudioVersion"
media_name media.NoSinf = codes "NoSinf"
media_name media.Progressive = codes "Progressive"
media_name media.NoTfhd = codes "NoTfhd"
media_name media.UnknownTrack = codes "UnknownTrack"
media_name media.NoTrex = codes "NoTrex"
media_name media.Description = codes "Description"
media_name media.TooManySamples = codes "TooManySamples"
media_name media.TooManyBytes = codes "TooManyBytes"
media_name media.DataPastEnd = codes "DataPastEnd"
media_name media.GroupIndex = codes "GroupIndex"
media_name media.AuxSize = codes "AuxSize"
media_name media.OffsetPastEnd = codes "OffsetPastEnd"
media_name media.NoAux = codes "NoAux"
media_name media.SubsSum = codes "SubsSum"
media_name media.NoMoov = codes "NoMoov"
media_name media.SecondMoov = codes "SecondMoov"
media_name media.Line = codes "Line"
media_name media.TrackId = codes "TrackId"
media_name media.Hex = codes "Hex"
media_name media.Kid = codes "Kid"

-- the name of a broken rule of a table of keys
abbrev pub desk_name : DeskKind → List ℕ
desk_name desk.Header = codes "Header"
desk_name desk.Line = codes "Line"
desk_name desk.Kid = codes "Kid"
desk_name desk.Key = codes "Key"
desk_name desk.Number = codes "Number"
desk_name desk.DuplicateKid = codes "DuplicateKid"

-- the name of what keeps media from being sealed
abbrev pub seal_name : SealKind → List ℕ
seal_name seal.HasInit = codes "HasInit"
seal_name seal.Protected = codes "Protected"
seal_name seal.TooLarge = codes "TooLarge"

-- the line of a bad word
abbrev pub usage_text : UsageFault → List ℕ
usage_text fault = codes "usage: word " ++ (decimal fault.place ++ (codes ": " ++ (usage_name fault.kind ++ codes "\n")))

-- the line of a file that is too large
abbrev pub large_text : Which → ℕ → List ℕ
large_text Script limit = codes "too large: script: limit " ++ (decimal limit ++ codes "\n")
large_text Media limit = codes "too large: media: limit " ++ (decimal limit ++ codes "\n")
large_text Desk limit = codes "too large: desk: limit " ++ (decimal limit ++ codes "\n")
large_text Request limit = codes "too large: request: limit " ++ (decimal limit ++ codes "\n")

-- the line of an outcome, or no byte
abbrev pub text_of : Outcome → List ℕ
text_of Played = []
text_of Done = []
text_of (Usage fault) = usage_text fault
text_of (ScriptRefused line kind) = codes "script: line " ++ (decimal line ++ (codes ": " ++ (script_name kind ++ codes "\n")))
text_of (MediaRefused place rule) = codes "media: byte " ++ (decimal place ++ (codes ": " ++ (media_name rule ++ codes "\n")))
text_of (TooLarge which limit) = large_text which limit
text_of ReadFault = codes "read fault\n"
text_of WriteFault = codes "write fault\n"
text_of OutOfMemory = codes "out of memory\n"
text_of (DeskRefused line rule) = codes "desk: line " ++ (decimal line ++ (codes ": " ++ (desk_name rule ++ codes "\n")))
text_of (SealRefused rule) = codes "seal: " ++ (seal_name rule ++ codes "\n")
