-- What a script means, or its first broken line.
use Rattle.std.specs.Prelude.{◌≡◌, ℕ, ◌+◌, if◌then◌else◌, List, [], ◌∷◌, ◌++◌, length, fold, flat_map, Option, Some, None, option_map, unwrap_or, Result, Ok, Err}
use Rattle.std.specs.Option.{option_or}
use Rattle.eme_types.specs.declared.call.AppCall.TheVariants.{Access, Create, Request, Update, Close, Remove, Certificate}
use Rattle.script_lang.specs.declared.verb.Verb.{Verb}
use Rattle.script_lang.specs.declared.verb.Verb.TheVariants.{Access as AccessVerb, Create as CreateVerb, Request as RequestVerb, Update as UpdateVerb, Close as CloseVerb, Remove as RemoveVerb, Certificate as CertificateVerb, Feed as FeedVerb, Clock as ClockVerb, Evict as EvictVerb, Settle as SettleVerb}
use Rattle.script_lang.specs.declared.script.Action.{Action}
use Rattle.script_lang.specs.declared.script.Action.TheVariants.{Ask, Feed, Clock, Evict, Settle}
use Rattle.script_lang.specs.declared.script.Line.{Line}
use Rattle.script_lang.specs.declared.fault.ScriptKind.{ScriptKind}
use Rattle.script_lang.specs.declared.fault.ScriptKind.TheVariants.{Header}
use Rattle.script_lang.specs.declared.fault.ScriptFault.{ScriptFault}
use Rattle.script_lang.specs.declared.fault.ScriptFault.TheVariants.{Refused, OutOfMemory}
use Rattle.text_words.specs.Lines.{lines_of}
use Rattle.script_lang.specs.Words.{acts}
use Rattle.script_lang.specs.Content.{text_of, data_bytes, moment_of}
use Rattle.script_lang.specs.Rules.{lane_in, verb_in, first_in, second_in, last_in, line_fault}
use Rattle.script_lang.specs.Script.{moment_after}

-- ---- what a line does

-- the bytes of data, or none where it is not in its form
abbrev pub data_in : List ℕ → List ℕ
data_in text = unwrap_or (data_bytes text) []

-- the action of a verb with its words and what is last
abbrev pub action_of : Verb → List ℕ → List ℕ → List ℕ → Action
action_of AccessVerb first second last = Ask (Access (text_of first) (data_in last))
action_of CreateVerb first second last = Ask (Create first (text_of second))
action_of RequestVerb first second last = Ask (Request first (text_of second) (data_in last))
action_of UpdateVerb first second last = Ask (Update first (data_in last))
action_of CloseVerb first second last = Ask (Close first)
action_of RemoveVerb first second last = Ask (Remove first)
action_of CertificateVerb first second last = Ask (Certificate (data_in last))
action_of FeedVerb first second last = Feed
action_of ClockVerb first second last = Clock (unwrap_or (moment_of last) 0)
action_of EvictVerb first second last = Evict first
action_of SettleVerb first second last = Settle

-- the line of this number and verb
abbrev pub action_line : ℕ → Option Verb → List ℕ → List Line
action_line number None line = []
action_line number (Some verb) line =
    record { number = number; lane = lane_in line; action = action_of verb (first_in line) (second_in line) (last_in verb line) } ∷ []

-- the line of this number, where it acts
abbrev pub meaning : ℕ → List ℕ → List Line
meaning number line = if acts line then action_line number (verb_in line) line else []

-- the lines from this number on
abbrev pub meanings : ℕ → List (List ℕ) → List Line
meanings number [] = []
meanings number (line ∷ more) = meaning number line ++ meanings (number + 1) more

-- ---- what the lines before a line said

-- the label that an action creates
abbrev pub created_by : Action → List (List ℕ)
created_by (Ask (Access name list)) = []
created_by (Ask (Create label kind)) = label ∷ []
created_by (Ask (Request label kind init)) = []
created_by (Ask (Update label response)) = []
created_by (Ask (Close label)) = []
created_by (Ask (Remove label)) = []
created_by (Ask (Certificate cert)) = []
created_by Feed = []
created_by (Clock moment) = []
created_by (Evict label) = []
created_by Settle = []

-- the labels that lines create
abbrev pub created : List Line → List (List ℕ)
created script = flat_map (λ line. created_by line.action) script

-- the moment of the last clock line, or 0
abbrev pub moment_at_end : List Line → ℕ
moment_at_end script = fold (λ moment line. moment_after moment line.action) 0 script

-- ---- the first broken line

-- the first broken rule of a line behind these lines
abbrev pub fault_behind : List (List ℕ) → List ℕ → Option ScriptKind
fault_behind before line = line_fault (length before + 1) (created (meanings 1 before)) (moment_at_end (meanings 1 before)) line

-- the least line with a broken rule, with its number and that rule's kind, among lines that stand behind others
abbrev pub first_fault : List (List ℕ) → List (List ℕ) → Option (ℕ × ScriptKind)
first_fault before [] = None
first_fault before (line ∷ more) =
    option_or (option_map (λ kind. (length before + 1, kind)) (fault_behind before line)) (first_fault (before ++ line ∷ []) more)

-- a file without a line has no header
abbrev pub file_fault : List (List ℕ) → Option (ℕ × ScriptKind)
file_fault [] = Some (1, Header)
file_fault (line ∷ more) = first_fault [] (line ∷ more)

-- the lines, unless a rule is broken
abbrev pub unless_refused : Option (ℕ × ScriptKind) → List Line → Result (List Line) (ℕ × ScriptKind)
unless_refused None script = Ok script
unless_refused (Some fault) script = Err fault

-- the lines of a script, or the number of its first broken line with the first broken rule there
unfoldable pub script_of : List ℕ → Result (List Line) (ℕ × ScriptKind)
script_of text = unless_refused (file_fault (lines_of text)) (meanings 1 (lines_of text))

-- bytes that were not read are refused at their first broken line, or memory was missing
abbrev pub EndsAt : Result (List Line) (ℕ × ScriptKind) → ScriptFault → Type 0
EndsAt read (Refused line kind) = read ≡ Err (line, kind)
EndsAt read OutOfMemory = Unit {0}
