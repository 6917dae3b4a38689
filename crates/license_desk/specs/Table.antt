-- The rows that a table file writes, or its first broken line.
use Rattle.std.specs.Prelude.{◌≡◌, ℕ, ◌+◌, ◌-◌, ◌^◌, min, not, List, [], ◌∷◌, ◌++◌, codes, bytes_eq, Result, Ok, Err, ok_or}
use Rattle.text_words.specs.Lines.{lines_of}
use Rattle.eme_types.specs.FirstFault.{◌>>=◌, demanded}
use Rattle.license_desk.specs.declared.fault.DeskKind.{DeskKind}
use Rattle.license_desk.specs.declared.fault.DeskKind.TheVariants.{Header, Line, Kid, Key, Number, DuplicateKid}
use Rattle.license_desk.specs.declared.fault.DeskFault.{DeskFault}
use Rattle.license_desk.specs.declared.fault.DeskFault.TheVariants.{Refused, OutOfMemory}
use Rattle.license_desk.specs.declared.fault.LineFault.{LineFault}
use Rattle.license_desk.specs.declared.fault.LineFault.TheVariants.{Broken, OutOfMemory as NoMemory}
use Rattle.license_desk.specs.Words.{words_of, has_empty_word, row_text, kid_in, key_in, moment_in, end_in}
use Rattle.license_desk.specs.Rows.{Row, has_kid}

-- ---- a line

-- the row that a line writes, or the first rule that it breaks
unfoldable pub row_in : List ℕ → Result Row DeskKind
row_in line = do
  words ← demanded Line (not (has_empty_word line))
  text ← ok_or (row_text (words_of line)) Line
  kid ← ok_or (kid_in text.kid) Kid
  key ← ok_or (key_in text.key) Key
  start ← ok_or (moment_in text.from) Number
  last ← ok_or (end_in text.expires) Number
  Ok (kid, record { key = record { bytes = key }; from = start; expires = last })

-- the rows with that of a further line, whose key id has to be new
unfoldable pub with_line : List Row → List ℕ → Result (List Row) DeskKind
with_line rows line = do
  row ← row_in line
  new ← demanded DuplicateKid (not (has_kid rows row.0))
  Ok (rows ++ row ∷ [])

-- ---- the file

-- the number of the line behind a line; the numbers end with the greatest of 32 bits
abbrev pub line_behind : ℕ → ℕ
line_behind number = min (number + 1) (2 ^ 32 - 1)

-- a broken rule, at the line of this number
abbrev pub at_line : ℕ → Result (List Row) DeskKind → Result (List Row) (ℕ × DeskKind)
at_line number (Ok rows) = Ok rows
at_line number (Err kind) = Err (number, kind)

-- the rows with those of the lines from this number on, or the first broken line
abbrev pub with_lines : List Row → ℕ → List (List ℕ) → Result (List Row) (ℕ × DeskKind)
with_lines rows number [] = Ok rows
with_lines rows number (line ∷ more) = do
  longer ← at_line number (with_line rows line)
  with_lines longer (line_behind number) more

-- the first line is the name of the format and its version; a file without a line has none
abbrev pub rows_in : List (List ℕ) → Result (List Row) (ℕ × DeskKind)
rows_in [] = Err (1, Header)
rows_in (line ∷ more) = do
  header ← demanded (1, Header) (bytes_eq line (codes "DESK 1"))
  with_lines [] 2 more

-- the rows that the bytes write, or the number of the first broken line and the first rule that it breaks
unfoldable pub desk_of : List ℕ → Result (List Row) (ℕ × DeskKind)
desk_of bytes = rows_in (lines_of bytes)

-- bytes that were not read are refused at their first broken line, or memory was missing
abbrev pub EndsAt : Result (List Row) (ℕ × DeskKind) → DeskFault → Type 0
EndsAt read (Refused line kind) = read ≡ Err (line, kind)
EndsAt read OutOfMemory = Unit {0}

-- memory was missing at a line
abbrev pub WantsMemory : LineFault → Type 0
WantsMemory fault = fault ≡ NoMemory

-- a broken rule as a fault of a line
abbrev pub broken : {A : Type 0} → Result A DeskKind → Result A LineFault
broken (Ok x) = Ok x
broken (Err kind) = Err (Broken kind)

-- the fault of a line at its number
abbrev pub fault_at : ℕ → LineFault → DeskFault
fault_at line (Broken kind) = Refused line kind
fault_at line NoMemory = OutOfMemory
