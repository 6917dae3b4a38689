-- The first broken rule of a line, in the order of the kinds.
use Rattle.std.specs.Prelude.{ℕ, ◌==◌, ◌&&◌, ◌||◌, nat_lt, Bool, not, if◌then◌else◌, List, drop, codes, Option, Some, None, is_none, unwrap_or}
use Rattle.std.specs.Option.{option_or}
use Rattle.std.specs.Str.{is_utf8, bytes_eq}
use Rattle.script_lang.specs.declared.verb.Verb.{Verb}
use Rattle.script_lang.specs.declared.fault.ScriptKind.{ScriptKind}
use Rattle.script_lang.specs.declared.fault.ScriptKind.TheVariants.{NotUtf8, Header, TooManyLines, Lane, Verb as UnknownVerb, LaneKind, Words, Label, DuplicateLabel, Form, Hex, Number, ClockBack}
use Rattle.text_words.specs.Fronts.{begins, is_nothing}
use Rattle.text_words.specs.Words.{first_word, after_word, next_word, after_next, is_word}
use Rattle.eme_types.specs.declared.limits.TheConstants.{MAX_SCRIPT_LINES}
use Rattle.script_lang.specs.Labels.{is_label, is_among}
use Rattle.script_lang.specs.Words.{lane_of, acts}
use Rattle.script_lang.specs.Verbs.{verb_of, plain_words, takes_label, takes_data, is_create, is_clock, is_of_lane_0}
use Rattle.script_lang.specs.Content.{has_form, data_bytes, moment_of}

-- ---- the parts of a line

-- the lane that a line begins with
abbrev pub lane_in : List ℕ → ℕ
lane_in line = unwrap_or (lane_of (first_word line)) 0

-- the verb behind the lane
abbrev pub verb_in : List ℕ → Option Verb
verb_in line = verb_of (next_word (after_word line))

-- what follows the verb
abbrev pub behind_verb : List ℕ → List ℕ
behind_verb line = after_next (after_word line)

-- the first word behind the verb
abbrev pub first_in : List ℕ → List ℕ
first_in line = next_word (behind_verb line)

-- the second word behind the verb
abbrev pub second_in : List ℕ → List ℕ
second_in line = next_word (after_next (behind_verb line))

-- what follows so many words, at most two
abbrev pub after_words : ℕ → List ℕ → List ℕ
after_words count rest = if count == 0 then rest else if count == 1 then after_next rest else after_next (after_next rest)

-- what follows the verb and its plain words
abbrev pub end_in : Verb → List ℕ → List ℕ
end_in verb line = after_words (plain_words verb) (behind_verb line)

-- data or a moment
abbrev pub last_in : Verb → List ℕ → List ℕ
last_in verb line = drop 1 (end_in verb line)

-- ---- the rules on the words

-- data that begins with `text:` takes all the rest of the line; other data and a moment are one word; else nothing follows
abbrev pub ends_well : Verb → List ℕ → Bool
ends_well verb rest =
    if takes_data verb then is_word (drop 1 rest) || begins (codes "text:") (drop 1 rest)
    else if is_clock verb then is_word (drop 1 rest)
    else is_nothing rest

-- each word of the verb is there and not empty, and no word is too many
abbrev pub has_words : Verb → List ℕ → List ℕ → List ℕ → Bool
has_words verb first second rest =
    not (nat_lt 0 (plain_words verb) && is_nothing first)
    && not (nat_lt 1 (plain_words verb) && is_nothing second)
    && ends_well verb rest

-- the first broken rule on the words behind the lane
abbrev pub words_fault_of : Option Verb → List ℕ → Option ScriptKind
words_fault_of None line = Some UnknownVerb
words_fault_of (Some verb) line =
    if is_of_lane_0 verb && not (lane_in line == 0) then Some LaneKind
    else if not (has_words verb (first_in line) (second_in line) (end_in verb line)) then Some Words
    else None

-- the first broken rule on the words of a line
abbrev pub words_fault : List ℕ → Option ScriptKind
words_fault line = if is_none (lane_of (first_word line)) then Some Lane else words_fault_of (verb_in line) line

-- ---- the rules on the label; the labels are those of the create lines before

-- the first broken rule on a label
abbrev pub label_fault : List (List ℕ) → Verb → List ℕ → Option ScriptKind
label_fault labels verb label =
    if takes_label verb && not (is_label label) then Some Label
    else if is_create verb && is_among labels label then Some DuplicateLabel
    else None

-- ---- the rules on data and moments; the moment is that of the last clock line before, or 0

-- the first broken rule on data
abbrev pub data_fault : List ℕ → Option ScriptKind
data_fault text = if not (has_form text) then Some Form else if is_none (data_bytes text) then Some Hex else None

-- the first broken rule on a moment
abbrev pub moment_fault : ℕ → List ℕ → Option ScriptKind
moment_fault moment text =
    if is_none (moment_of text) then Some Number
    else if nat_lt (unwrap_or (moment_of text) 0) moment then Some ClockBack
    else None

-- the first broken rule on what is last in a line
abbrev pub content_fault : ℕ → Verb → List ℕ → Option ScriptKind
content_fault moment verb text =
    if takes_data verb then data_fault text
    else if is_clock verb then moment_fault moment text
    else None

-- ---- a line that acts, and any line

-- the first broken rule on the label and on what is last
abbrev pub parts_fault : List (List ℕ) → ℕ → Option Verb → List ℕ → Option ScriptKind
parts_fault labels moment None line = None
parts_fault labels moment (Some verb) line = option_or (label_fault labels verb (first_in line)) (content_fault moment verb (last_in verb line))

-- the first broken rule of a line that acts
abbrev pub action_fault : List (List ℕ) → ℕ → List ℕ → Option ScriptKind
action_fault labels moment line = option_or (words_fault line) (parts_fault labels moment (verb_in line) line)

-- of the line of this number; a line feed is no part of a longer character, so the file is UTF-8 where each line is
abbrev pub line_fault : ℕ → List (List ℕ) → ℕ → List ℕ → Option ScriptKind
line_fault number labels moment line =
    if not (is_utf8 line) then Some NotUtf8
    else if number == 1 then (if bytes_eq line (codes "EMES 1") then None else Some Header)
    else if nat_lt MAX_SCRIPT_LINES number then Some TooManyLines
    else if acts line then action_fault labels moment line
    else None
