-- How the index of keys follows the table of one session.
use Rattle.std.specs.Prelude.{ℕ, ◌≡◌, ◌&&◌, not, Bool, true, false, if◌then◌else◌, List, is_some}
use Rattle.std.specs.List.{list_any}
use Rattle.std.specs.Str.{bytes_eq}
use Rattle.key_statuses.specs.declared.table.KnownKey.{KnownKey}
use Rattle.key_statuses.specs.Table.{key_in}
use Rattle.key_statuses.specs.Index.{holders_of, with_number, without_number}

-- the sessions under an id, this one among them exactly where it holds a key
abbrev pub placed : Bool → ℕ → List ℕ → List ℕ
placed true n numbers = with_number n (without_number n numbers)
placed false n numbers = without_number n numbers

-- an index that differs from another at most in one session, which it has under just the ids of the table's keys
abbrev pub Follows : List (List ℕ × List ℕ) → ℕ → List KnownKey → List (List ℕ × List ℕ) → Type 0
Follows index n table new = (kid : List ℕ) → holders_of new kid ≡ placed (is_some (key_in table kid)) n (holders_of index kid)

-- the known id is this one, with its key
abbrev pub is_held : List ℕ → KnownKey → Bool
is_held kid known = bytes_eq known.kid kid && is_some known.key

-- the known id is this one, and the table holds no key under it
abbrev pub is_unheld : List KnownKey → List ℕ → KnownKey → Bool
is_unheld table kid known = bytes_eq known.kid kid && not (is_some (key_in table kid))

-- the sessions are changed under each id that one of the known ids asks for
abbrev pub ChangesWhere : (List ℕ → KnownKey → Bool) → (List ℕ → List ℕ) → List KnownKey → List (List ℕ × List ℕ) → List (List ℕ × List ℕ) → Type 0
ChangesWhere asks f known old new = (kid : List ℕ) → holders_of new kid ≡ (if list_any (asks kid) known then f (holders_of old kid) else holders_of old kid)
