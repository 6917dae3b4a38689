-- The words behind the name of the vault's file, and what they ask for.
use Rattle.std.specs.Prelude.{ℕ, if◌then◌else◌, List, [], ◌∷◌, codes, Result, Ok, Err}
use Rattle.std.specs.Str.{bytes_eq}
use Rattle.text_words.specs.Fronts.{is_nothing}
use Rattle.eme_edge.specs.Words.{bad_word}
use Rattle.eme_edge.specs.declared.words.UsageKind.TheVariants.{MissingCommand, UnknownCommand, MissingWord, ExtraWord, EmptyName}
use Rattle.eme_edge.specs.declared.words.UsageFault.{UsageFault}
use Rattle.vault_tool.specs.declared.words.VaultWords.{VaultWords}
use Rattle.vault_tool.specs.declared.words.VaultWords.TheVariants as read

-- what the words ask for
pub data Asked : Type 0 where
  -- a vault without a record
  Create : Asked
  -- to keep under this label the licence in the file of this name
  Store : List ℕ → List ℕ → Asked
  -- the licence under this label
  Load : List ℕ → Asked
  -- to let go the licence under this label
  Release : List ℕ → Asked
  -- to forget the licence under this label, whose release was acknowledged
  Ack : List ℕ → Asked

-- no word stands at this place
abbrev pub nothing_behind : ℕ → List (List ℕ) → Result (Unit {0}) UsageFault
nothing_behind place [] = Ok tt
nothing_behind place (word ∷ more) = Err (bad_word place ExtraWord)

-- this is asked for, where nothing is wrong
abbrev pub asked_if : {A : Type 0} → (A → Asked) → Result A UsageFault → Result Asked UsageFault
asked_if asked (Ok x) = Ok (asked x)
asked_if asked (Err fault) = Err fault

-- this is what was read, where nothing is wrong behind it
abbrev pub read_if : {A : Type 0} → A → Result (Unit {0}) UsageFault → Result A UsageFault
read_if x (Ok over) = Ok x
read_if x (Err fault) = Err fault

-- one label, the last word
abbrev pub label_words : List (List ℕ) → Result (List ℕ) UsageFault
label_words [] = Err (bad_word 2 MissingWord)
label_words (label ∷ more) = read_if label (nothing_behind 3 more)

-- the name of the licence's file, the last word
abbrev pub file_words : List ℕ → List (List ℕ) → Result Asked UsageFault
file_words label [] = Err (bad_word 3 MissingWord)
file_words label (name ∷ more) = if is_nothing name then Err (bad_word 3 EmptyName) else read_if (Store label name) (nothing_behind 4 more)

-- the label and the name of the licence's file
abbrev pub store_words : List (List ℕ) → Result Asked UsageFault
store_words [] = Err (bad_word 2 MissingWord)
store_words (label ∷ more) = file_words label more

-- what the words ask for, or the first bad word
unfoldable pub command : List (List ℕ) → Result Asked UsageFault
command [] = Err (bad_word 1 MissingCommand)
command (word ∷ more) =
    if bytes_eq word (codes "create") then asked_if (λ over. Create) (nothing_behind 2 more)
    else if bytes_eq word (codes "store") then store_words more
    else if bytes_eq word (codes "load") then asked_if Load (label_words more)
    else if bytes_eq word (codes "release") then asked_if Release (label_words more)
    else if bytes_eq word (codes "ack") then asked_if Ack (label_words more)
    else Err (bad_word 1 UnknownCommand)

-- what the words that were read ask for
abbrev pub asked_of : VaultWords → Asked
asked_of read.Create = Create
asked_of (read.Store label licence) = Store label.now licence.now
asked_of (read.Load label) = Load label.now
asked_of (read.Release label) = Release label.now
asked_of (read.Ack label) = Ack label.now
