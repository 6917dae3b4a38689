-- Labels.
use Rattle.std.specs.Prelude.{ℕ, ◌==◌, ◌&&◌, ◌||◌, nat_le, nat_lt, Bool, false, if◌then◌else◌, List, length}
use Rattle.std.specs.List.{list_all, list_any}
use Rattle.std.specs.Str.{bytes_eq}

-- `a` to `z`, `0` to `9` or `_`
abbrev pub is_label_byte : ℕ → Bool
is_label_byte b = (nat_le 97 b && nat_le b 122) || (nat_le 48 b && nat_le b 57) || b == 95

-- 1 to 32 of the characters a to z, 0 to 9 and _
abbrev pub is_label : List ℕ → Bool
is_label text = if length text == 0 then false else (if nat_lt 32 (length text) then false else list_all is_label_byte text)

-- the label is one of these
abbrev pub is_among : List (List ℕ) → List ℕ → Bool
is_among labels label = list_any (bytes_eq label) labels
