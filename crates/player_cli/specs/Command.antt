-- The words of the command line.
use Rattle.std.specs.Prelude.{ℕ, ◌-◌, ◌^◌, ◌≡◌, ◌&&◌, ◌||◌, Bool, false, not, if◌then◌else◌, List, [], ◌∷◌, codes, Option, IsSome, Some, None, unwrap_or, option_and_then, Result, Ok, Err}
use Rattle.std.specs.Result.{result_ok}
use Rattle.std.specs.Char.{is_ascii_digit}
use Rattle.std.specs.List.{list_all}
use Rattle.std.specs.Str.{bytes_eq}
use Rattle.text_words.specs.Fronts.{is_nothing, behind}
use Rattle.text_words.specs.Numbers.{number_up_to}
use Rattle.text_words.specs.Hexadecimal.{hex_bytes}
use Rattle.eme_types.specs.declared.limits.TheConstants.{MAX_WORKERS, MAX_MOMENT}
use Rattle.eme_edge.specs.Words.{bad_word}
use Rattle.eme_edge.specs.declared.words.UsageKind.TheVariants.{MissingCommand, UnknownCommand, MissingWord, ExtraWord, BadNumber, BadKind, BadHex, EmptyName, NameClash}
use Rattle.eme_edge.specs.declared.words.UsageFault.{UsageFault}
use Rattle.player_cli.specs.declared.words.PlayWords.{PlayWords}
use Rattle.player_cli.specs.declared.quiet.RequestWords.{RequestWords}
use Rattle.player_cli.specs.declared.quiet.DeskWords.{DeskWords}
use Rattle.player_cli.specs.declared.quiet.QuietWords.{QuietWords}
use Rattle.player_cli.specs.declared.quiet.QuietWords.TheVariants.{Inspect as ToInspect, Request as ToRequest, Demo as ToDemo, Desk as ToDesk}
use Rattle.eme_types.specs.declared.media.InitKind.{InitKind}
use Rattle.eme_types.specs.declared.media.InitKind.TheVariants.{Cenc, Keyids}
use Rattle.eme_types.specs.declared.kid.KeyBytes.{KeyBytes}
use Rattle.eme_types.specs.declared.sample.Scheme.{Scheme}
use Rattle.eme_types.specs.declared.sample.Scheme.TheVariants.{Cenc as CencScheme, Cbcs as CbcsScheme}
use Rattle.hex.specs.Hex.{decode_sized}
use Rattle.seal_media.specs.declared.plan.SealPlan.{SealPlan}
use Rattle.player_cli.specs.declared.seal_words.SealWords.{SealWords}

-- the files that a play reads, the prefix of those that it writes, and its number of workers
pub record Names : Type 0 where
  pub script : List ℕ
  pub media : List ℕ
  pub prefix : List ℕ
  pub workers : ℕ

-- the table and the licence request that a desk reads, and the moment of its answer
pub record DeskNames : Type 0 where
  pub table : List ℕ
  pub request : List ℕ
  pub moment : ℕ

-- the media that are sealed, how, and the file that is written
pub record SealNames : Type 0 where
  pub media : List ℕ
  pub plan : SealPlan
  pub out : List ℕ

-- what is asked of a command that says a text: one case for each
pub data Query : Type 0 where
  -- the text of the media file of this name
  Inspect : List ℕ → Query
  -- a licence request for initialization data of this type
  Request : InitKind → List ℕ → Query
  -- the play of the demonstration of this number
  Demo : ℕ → Query
  -- the answer of a table of keys to a licence request
  Desk : DeskNames → Query

-- what the words ask for
pub data Asked : Type 0 where
  Play : Names → Asked
  Seal : SealNames → Asked
  Tell : Query → Asked

-- ---- the command `play`

-- no word stands behind the number of workers
abbrev pub play_over : ℕ → List (List ℕ) → Result ℕ UsageFault
play_over workers [] = Ok workers
play_over workers (word ∷ more) = Err (bad_word 7 ExtraWord)

-- the words behind the number of workers
abbrev pub play_number : Option ℕ → List (List ℕ) → Result ℕ UsageFault
play_number None more = Err (bad_word 6 BadNumber)
play_number (Some workers) more = play_over workers more

-- the words behind `--workers`
abbrev pub play_workers : List (List ℕ) → Result ℕ UsageFault
play_workers [] = Err (bad_word 6 MissingWord)
play_workers (word ∷ more) = play_number (number_up_to MAX_WORKERS word) more

-- the number of workers that the words behind the prefix name; where no word stands there, it is 4
abbrev pub play_end : List (List ℕ) → Result ℕ UsageFault
play_end [] = Ok 4
play_end (word ∷ more) = if bytes_eq word (codes "--workers") then play_workers more else Err (bad_word 5 ExtraWord)

-- `log`, or digits alone
abbrev pub is_ending : List ℕ → Bool
is_ending text = bytes_eq text (codes "log") || (not (is_nothing text) && list_all is_ascii_digit text)

-- it is such an ending
abbrev pub is_some_ending : Option (List ℕ) → Bool
is_some_ending None = false
is_some_ending (Some text) = is_ending text

-- the name is `<prefix>.` followed by `log`, or by digits alone: it may be that of a file that the play writes
abbrev pub clashes : List ℕ → List ℕ → Bool
clashes prefix name = is_some_ending (option_and_then (behind (codes ".")) (behind prefix name))

-- the names of a play with this number of workers
abbrev pub names_with : List ℕ → List ℕ → List ℕ → ℕ → Names
names_with script media prefix workers = record { script = script; media = media; prefix = prefix; workers = workers }

-- the words ask for this play where its number of workers is read
abbrev pub play_with : List ℕ → List ℕ → List ℕ → Result ℕ UsageFault → Result Asked UsageFault
play_with script media prefix (Ok workers) = Ok (Play (names_with script media prefix workers))
play_with script media prefix (Err fault) = Err fault

-- the words from the prefix on
abbrev pub prefix_words : List ℕ → List ℕ → List (List ℕ) → Result Asked UsageFault
prefix_words script media [] = Err (bad_word 4 MissingWord)
prefix_words script media (prefix ∷ more) =
    if is_nothing prefix then Err (bad_word 4 EmptyName)
    else if clashes prefix script then Err (bad_word 4 NameClash)
    else if clashes prefix media then Err (bad_word 4 NameClash)
    else play_with script media prefix (play_end more)

-- the words from the name of the media file on
abbrev pub media_words : List ℕ → List (List ℕ) → Result Asked UsageFault
media_words script [] = Err (bad_word 3 MissingWord)
media_words script (media ∷ more) = if is_nothing media then Err (bad_word 3 EmptyName) else prefix_words script media more

-- the words behind `play`
abbrev pub play_words : List (List ℕ) → Result Asked UsageFault
play_words [] = Err (bad_word 2 MissingWord)
play_words (script ∷ more) = if is_nothing script then Err (bad_word 2 EmptyName) else media_words script more

-- ---- the command `inspect`

-- no word stands behind the name
abbrev pub inspect_over : List ℕ → List (List ℕ) → Result Asked UsageFault
inspect_over media [] = Ok (Tell (Inspect media))
inspect_over media (word ∷ more) = Err (bad_word 3 ExtraWord)

-- the words behind `inspect`
abbrev pub inspect_words : List (List ℕ) → Result Asked UsageFault
inspect_words [] = Err (bad_word 2 MissingWord)
inspect_words (media ∷ more) = if is_nothing media then Err (bad_word 2 EmptyName) else inspect_over media more

-- ---- the command `request`

-- the type of initialization data that a word names (Encrypted Media Extensions Initialization Data Format Registry)
abbrev pub kind_of : List ℕ → Option InitKind
kind_of word = if bytes_eq word (codes "cenc") then Some Cenc else (if bytes_eq word (codes "keyids") then Some Keyids else None)

-- no word stands behind the data
abbrev pub request_over : Asked → List (List ℕ) → Result Asked UsageFault
request_over asked [] = Ok asked
request_over asked (word ∷ more) = Err (bad_word 4 ExtraWord)

-- the words behind the data
abbrev pub request_bytes : InitKind → Option (List ℕ) → List (List ℕ) → Result Asked UsageFault
request_bytes kind None more = Err (bad_word 3 BadHex)
request_bytes kind (Some bytes) more = request_over (Tell (Request kind bytes)) more

-- the empty word is empty data
abbrev pub request_hex : InitKind → List (List ℕ) → Result Asked UsageFault
request_hex kind [] = Err (bad_word 3 MissingWord)
request_hex kind (word ∷ more) = request_bytes kind (hex_bytes word) more

-- the words behind the type
abbrev pub request_kind : Option InitKind → List (List ℕ) → Result Asked UsageFault
request_kind None more = Err (bad_word 2 BadKind)
request_kind (Some kind) more = request_hex kind more

-- the words behind `request`
abbrev pub request_words : List (List ℕ) → Result Asked UsageFault
request_words [] = Err (bad_word 2 MissingWord)
request_words (word ∷ more) = request_kind (kind_of word) more

-- ---- the command `demo`

-- no word stands behind the number
abbrev pub demo_over : ℕ → List (List ℕ) → Result Asked UsageFault
demo_over n [] = Ok (Tell (Demo n))
demo_over n (word ∷ more) = Err (bad_word 3 ExtraWord)

-- the words behind the number
abbrev pub demo_number : Option ℕ → List (List ℕ) → Result Asked UsageFault
demo_number None more = Err (bad_word 2 BadNumber)
demo_number (Some n) more = demo_over n more

-- the words behind `demo`
abbrev pub demo_words : List (List ℕ) → Result Asked UsageFault
demo_words [] = Err (bad_word 2 MissingWord)
demo_words (word ∷ more) = demo_number (number_up_to (2 ^ 64 - 1) word) more

-- ---- the command `desk`

-- what these words ask for
abbrev pub desk_asked : List ℕ → List ℕ → ℕ → Asked
desk_asked table request moment = Tell (Desk (record { table = table; request = request; moment = moment }))

-- no word stands behind the moment
abbrev pub desk_over : Asked → List (List ℕ) → Result Asked UsageFault
desk_over asked [] = Ok asked
desk_over asked (word ∷ more) = Err (bad_word 5 ExtraWord)

-- the words behind the moment
abbrev pub desk_number : List ℕ → List ℕ → Option ℕ → List (List ℕ) → Result Asked UsageFault
desk_number table request None more = Err (bad_word 4 BadNumber)
desk_number table request (Some moment) more = desk_over (desk_asked table request moment) more

-- the words behind the name of the request
abbrev pub desk_moment : List ℕ → List ℕ → List (List ℕ) → Result Asked UsageFault
desk_moment table request [] = Err (bad_word 4 MissingWord)
desk_moment table request (word ∷ more) = desk_number table request (number_up_to MAX_MOMENT word) more

-- the words behind the name of the table
abbrev pub desk_request : List ℕ → List (List ℕ) → Result Asked UsageFault
desk_request table [] = Err (bad_word 3 MissingWord)
desk_request table (request ∷ more) = if is_nothing request then Err (bad_word 3 EmptyName) else desk_moment table request more

-- the words behind `desk`
abbrev pub desk_words : List (List ℕ) → Result Asked UsageFault
desk_words [] = Err (bad_word 2 MissingWord)
desk_words (table ∷ more) = if is_nothing table then Err (bad_word 2 EmptyName) else desk_request table more

-- ---- the command `seal`

-- the protection scheme that a word names (ISO/IEC 23001-7 section 10)
abbrev pub scheme_of : List ℕ → Option Scheme
scheme_of word = if bytes_eq word (codes "cenc") then Some CencScheme else (if bytes_eq word (codes "cbcs") then Some CbcsScheme else None)

-- the 16 bytes of a hexadecimal word
unfoldable pub sixteen_bytes : List ℕ → Option (List ℕ)
sixteen_bytes word = result_ok (decode_sized word 16)

-- no word stands behind the name of the output
abbrev pub seal_over : SealNames → List (List ℕ) → Result Asked UsageFault
seal_over names [] = Ok (Seal names)
seal_over names (word ∷ more) = Err (bad_word 9 ExtraWord)

-- the words behind the lead
abbrev pub seal_out : List ℕ → SealPlan → List (List ℕ) → Result Asked UsageFault
seal_out media plan [] = Err (bad_word 8 MissingWord)
seal_out media plan (out ∷ more) =
    if is_nothing out then Err (bad_word 8 EmptyName)
    else if bytes_eq out media then Err (bad_word 8 NameClash)
    else seal_over (record { media = media; plan = plan; out = out }) more

-- the words behind the word of the lead, which is 0 to 65,535
abbrev pub seal_with_lead : List ℕ → SealPlan → Option ℕ → List (List ℕ) → Result Asked UsageFault
seal_with_lead media plan None more = Err (bad_word 7 BadNumber)
seal_with_lead media plan (Some lead) more = seal_out media (record plan { lead = lead }) more

-- the words behind the IV
abbrev pub seal_lead : List ℕ → SealPlan → List (List ℕ) → Result Asked UsageFault
seal_lead media plan [] = Err (bad_word 7 MissingWord)
seal_lead media plan (word ∷ more) = seal_with_lead media plan (number_up_to 65535 word) more

-- all of a plan but its lead
abbrev pub plan_with : Scheme → List ℕ → KeyBytes → List ℕ → SealPlan
plan_with scheme kid key iv = record { scheme = scheme; kid = kid; key = key; iv = iv; lead = 0 }

-- the words behind the word of the IV
abbrev pub seal_with_iv : List ℕ → Scheme → List ℕ → KeyBytes → Option (List ℕ) → List (List ℕ) → Result Asked UsageFault
seal_with_iv media scheme kid key None more = Err (bad_word 6 BadHex)
seal_with_iv media scheme kid key (Some iv) more = seal_lead media (plan_with scheme kid key iv) more

-- the words behind the key
abbrev pub seal_iv : List ℕ → Scheme → List ℕ → KeyBytes → List (List ℕ) → Result Asked UsageFault
seal_iv media scheme kid key [] = Err (bad_word 6 MissingWord)
seal_iv media scheme kid key (word ∷ more) = seal_with_iv media scheme kid key (sixteen_bytes word) more

-- the words behind the word of the key
abbrev pub seal_with_key : List ℕ → Scheme → List ℕ → Option (List ℕ) → List (List ℕ) → Result Asked UsageFault
seal_with_key media scheme kid None more = Err (bad_word 5 BadHex)
seal_with_key media scheme kid (Some key) more = seal_iv media scheme kid (record { bytes = key }) more

-- the words behind the key id
abbrev pub seal_key : List ℕ → Scheme → List ℕ → List (List ℕ) → Result Asked UsageFault
seal_key media scheme kid [] = Err (bad_word 5 MissingWord)
seal_key media scheme kid (word ∷ more) = seal_with_key media scheme kid (sixteen_bytes word) more

-- the words behind the word of the key id
abbrev pub seal_with_kid : List ℕ → Scheme → Option (List ℕ) → List (List ℕ) → Result Asked UsageFault
seal_with_kid media scheme None more = Err (bad_word 4 BadHex)
seal_with_kid media scheme (Some kid) more = seal_key media scheme kid more

-- the words behind the scheme
abbrev pub seal_kid : List ℕ → Scheme → List (List ℕ) → Result Asked UsageFault
seal_kid media scheme [] = Err (bad_word 4 MissingWord)
seal_kid media scheme (word ∷ more) = seal_with_kid media scheme (sixteen_bytes word) more

-- the words behind the word of the scheme
abbrev pub seal_with_scheme : List ℕ → Option Scheme → List (List ℕ) → Result Asked UsageFault
seal_with_scheme media None more = Err (bad_word 3 BadKind)
seal_with_scheme media (Some scheme) more = seal_kid media scheme more

-- the words behind the name of the media
abbrev pub seal_scheme : List ℕ → List (List ℕ) → Result Asked UsageFault
seal_scheme media [] = Err (bad_word 3 MissingWord)
seal_scheme media (word ∷ more) = seal_with_scheme media (scheme_of word) more

-- the words behind `seal`
abbrev pub seal_words : List (List ℕ) → Result Asked UsageFault
seal_words [] = Err (bad_word 2 MissingWord)
seal_words (media ∷ more) = if is_nothing media then Err (bad_word 2 EmptyName) else seal_scheme media more

-- ---- all commands

-- what the words of a command that says a text ask for, or the first bad word
unfoldable pub told_command : List (List ℕ) → Result Asked UsageFault
told_command [] = Err (bad_word 1 MissingCommand)
told_command (word ∷ more) =
    if bytes_eq word (codes "inspect") then inspect_words more
    else if bytes_eq word (codes "request") then request_words more
    else if bytes_eq word (codes "demo") then demo_words more
    else if bytes_eq word (codes "desk") then desk_words more
    else Err (bad_word 1 UnknownCommand)

-- what the words of a command that plays no files ask for, or the first bad word
unfoldable pub quiet_command : List (List ℕ) → Result Asked UsageFault
quiet_command [] = Err (bad_word 1 MissingCommand)
quiet_command (word ∷ more) = if bytes_eq word (codes "seal") then seal_words more else told_command (word ∷ more)

-- what the words ask for, or the first bad word
unfoldable pub command : List (List ℕ) → Result Asked UsageFault
command [] = Err (bad_word 1 MissingCommand)
command (word ∷ more) = if bytes_eq word (codes "play") then play_words more else quiet_command (word ∷ more)

-- ---- what the readers of words give

-- the names that the words of a play give
abbrev pub names_of : PlayWords → Names
names_of w = record { script = w.script.now; media = w.media.now; prefix = w.prefix.now; workers = w.workers }

-- the words ask for this play
abbrev pub IsAsked : Result Asked UsageFault → PlayWords → Type 0
IsAsked asked w = asked ≡ Ok (Play (names_of w))

-- the bytes of a hexadecimal word, or none
abbrev pub data_of : List ℕ → List ℕ
data_of word = unwrap_or (hex_bytes word) []

-- the names and the plan that the words of `seal` give
abbrev pub seal_names : SealWords → SealNames
seal_names w = record { media = w.media.now; plan = w.plan; out = w.out.now }

-- the words ask for this sealing
abbrev pub IsSeal : Result Asked UsageFault → SealWords → Type 0
IsSeal asked w = asked ≡ Ok (Seal (seal_names w))

-- the names and the moment that the words of a desk give
abbrev pub desk_names : DeskWords → DeskNames
desk_names w = record { table = w.table.now; request = w.request.now; moment = w.moment }

-- what the words of a command ask for that says a text
abbrev pub query_of : QuietWords → Query
query_of (ToInspect media) = Inspect media.now
query_of (ToRequest w) = Request w.kind (data_of w.hex.now)
query_of (ToDemo n) = Demo n
query_of (ToDesk w) = Desk (desk_names w)

-- a hexadecimal word among them is one
abbrev pub HasData : QuietWords → Type 0
HasData (ToInspect media) = Unit {0}
HasData (ToRequest w) = IsSome (hex_bytes w.hex.now)
HasData (ToDemo n) = Unit {0}
HasData (ToDesk w) = Unit {0}

-- they ask for a request of that type with the bytes of that word
pub record IsRequested (asked : Result Asked UsageFault) (w : RequestWords) : Type 0 where
  pub is_data : IsSome (hex_bytes w.hex.now)
  pub is : asked ≡ Ok (Tell (Request w.kind (data_of w.hex.now)))

-- they ask for what the words of a command say that says a text
pub record IsQuiet (asked : Result Asked UsageFault) (w : QuietWords) : Type 0 where
  pub is_data : HasData w
  pub is : asked ≡ Ok (Tell (query_of w))
