-- What data and moments stand for.
use Rattle.std.specs.Prelude.{ℕ, ◌||◌, Bool, if◌then◌else◌, List, [], codes, Option, option_and_then}
use Rattle.std.specs.Str.{bytes_eq}
use Rattle.text_words.specs.Fronts.{behind, begins}
use Rattle.text_words.specs.Hexadecimal.{hex_bytes}
use Rattle.text_words.specs.Numbers.{number_up_to}
use Rattle.eme_types.specs.declared.limits.TheConstants.{MAX_MOMENT}

-- a name or a type; `-` alone is the empty text
abbrev pub text_of : List ℕ → List ℕ
text_of word = if bytes_eq word (codes "-") then [] else word

-- data begins with its form
abbrev pub has_form : List ℕ → Bool
has_form text = begins (codes "text:") text || begins (codes "hex:") text

-- the bytes of data: all that follows `text:`, or what the digits behind `hex:` spell
abbrev pub data_bytes : List ℕ → Option (List ℕ)
data_bytes text = if begins (codes "text:") text then behind (codes "text:") text else option_and_then hex_bytes (behind (codes "hex:") text)

-- a moment in milliseconds: a decimal number up to 2^53
abbrev pub moment_of : List ℕ → Option ℕ
moment_of text = number_up_to MAX_MOMENT text
