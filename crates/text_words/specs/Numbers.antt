-- Decimal numbers.
use Rattle.std.specs.Prelude.{ℕ, ◌==◌, ◌&&◌, ◌||◌, nat_le, Bool, not, if◌then◌else◌, List, length, slice_index, Option, Some, None}
use Rattle.std.specs.Char.{is_ascii_digit}
use Rattle.std.specs.List.{list_all}
use Rattle.std.specs.Str.Parse.{digits_value}
use Rattle.text_words.specs.Fronts.{is_nothing}

-- decimal digits, without leading zeros unless the number is 0
abbrev pub is_number : List ℕ → Bool
is_number text = not (is_nothing text) && list_all is_ascii_digit text && (length text == 1 || not (slice_index text 0 == 48))

-- the number that the text writes, where it is at most this
unfoldable pub number_up_to : ℕ → List ℕ → Option ℕ
number_up_to most text = if is_number text && nat_le (digits_value 10 text) most then Some (digits_value 10 text) else None
