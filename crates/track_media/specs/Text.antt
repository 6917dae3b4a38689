-- The words of a line of a sample list, and what a word may be.
use Rattle.std.specs.Prelude.{ℕ, ◌^◌, ◌-◌, ◌==◌, ◌&&◌, nat_le, Bool, if◌then◌else◌, List, [], ◌∷◌, length, codes, Option, Some, None, option_and_then, bytes_eq}
use Rattle.std.specs.List.{list_any}
use Rattle.std.specs.Option.{option_map}
use Rattle.std.specs.Result.{result_ok}
use Rattle.hex.specs.Hex.{decode_sized}
use Rattle.text_words.specs.Fronts.{is_nothing}
use Rattle.text_words.specs.Pieces.{cut}
use Rattle.text_words.specs.Numbers.{number_up_to}
use Rattle.text_words.specs.Hexadecimal.{hex_bytes}
use Rattle.eme_types.specs.declared.limits.TheConstants.{MAX_KID_BYTES}
use Rattle.eme_types.specs.declared.media.InitKind.{InitKind}
use Rattle.eme_types.specs.declared.media.InitKind.TheVariants.{Cenc, Keyids}
use Rattle.eme_types.specs.declared.sample.Iv.{Iv}
use Rattle.eme_types.specs.declared.sample.Iv.TheVariants.{Eight, Sixteen}
use Rattle.eme_types.specs.declared.sample.Sub.{Sub}

-- words are parted by one space
abbrev pub words_of : List ℕ → List (List ℕ)
words_of line = cut 32 line

-- a word without a byte
abbrev pub has_empty_word : List ℕ → Bool
has_empty_word line = list_any is_nothing (words_of line)

-- a number that is not 0
abbrev pub positive : ℕ → Option ℕ
positive n = if n == 0 then None else Some n

-- a track id is 1 to 2^32 - 1
abbrev pub track_id : List ℕ → Option ℕ
track_id word = option_and_then positive (number_up_to (2 ^ 32 - 1) word)

-- a pair whose second number is still to be read
abbrev pub with_first : ℕ → Option ℕ → Option (ℕ × ℕ)
with_first a None = None
with_first a (Some b) = Some (a, b)

-- two numbers, each of at most so much, where there are two texts
abbrev pub pair_of : ℕ → ℕ → List (List ℕ) → Option (ℕ × ℕ)
pair_of most_before most_behind (a ∷ b ∷ []) = option_and_then (λ x. with_first x (number_up_to most_behind b)) (number_up_to most_before a)
pair_of most_before most_behind _ = None

-- two numbers, before and behind a sign
unfoldable pub pair_at : ℕ → ℕ → ℕ → List ℕ → Option (ℕ × ℕ)
pair_at sign most_before most_behind text = pair_of most_before most_behind (cut sign text)

-- the crypt and the skip count of a pattern, each 0 to 15, with a colon between them
abbrev pub pattern_in : List ℕ → Option (ℕ × ℕ)
pattern_in word = pair_at 58 15 15 word

-- the clear and the protected bytes of a subsample, with a plus sign between them
unfoldable pub sub_in : List ℕ → Option Sub
sub_in text = option_map (λ p. record { clear = p.0; prot = p.1 }) (pair_at 43 65535 (2 ^ 32 - 1) text)

-- a subsample in front of others
abbrev pub with_sub : Sub → Option (List Sub) → Option (List Sub)
with_sub s None = None
with_sub s (Some more) = Some (s ∷ more)

-- each text is a subsample
unfoldable pub all_subs : List (List ℕ) → Option (List Sub)
all_subs [] = Some []
all_subs (text ∷ more) = option_and_then (λ s. with_sub s (all_subs more)) (sub_in text)

-- a dash for none, or subsamples joined by commas
abbrev pub subs_in : List ℕ → Option (List Sub)
subs_in word = if bytes_eq word (codes "-") then Some [] else all_subs (cut 44 word)

-- pairs of hexadecimal digits, or a dash for no bytes
abbrev pub data_in : List ℕ → Option (List ℕ)
data_in word = if bytes_eq word (codes "-") then Some [] else hex_bytes word

-- bytes of a key id (Encrypted Media Extensions, 'Key IDs')
abbrev pub as_kid : List ℕ → Option (List ℕ)
as_kid bytes = if nat_le 1 (length bytes) && nat_le (length bytes) MAX_KID_BYTES then Some bytes else None

-- a key id
abbrev pub kid_in : List ℕ → Option (List ℕ)
kid_in word = option_and_then as_kid (hex_bytes word)

-- pairs of hexadecimal digits, so many
unfoldable pub hex_of : ℕ → List ℕ → Option (List ℕ)
hex_of size word = result_ok (decode_sized word size)

-- an initialization vector of 8 bytes, else the other
abbrev pub eight_or : Option Iv → Option (List ℕ) → Option Iv
eight_or other None = other
eight_or other (Some bytes) = Some (Eight bytes)

-- 8 or 16 bytes
abbrev pub iv_in : List ℕ → Option Iv
iv_in word = eight_or (option_map (λ bytes. Sixteen bytes) (hex_of 16 word)) (hex_of 8 word)

-- the types of initialization data (Encrypted Media Extensions Initialization Data Format Registry)
abbrev pub init_kind : List ℕ → Option InitKind
init_kind word = if bytes_eq word (codes "cenc") then Some Cenc else if bytes_eq word (codes "keyids") then Some Keyids else None
