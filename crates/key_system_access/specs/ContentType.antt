-- The content types of the supported media: a MIME type with its codecs (RFC 6381 section 3).
use Rattle.std.specs.Prelude.{ℕ, ◌-◌, ◌==◌, List, [], ◌∷◌, length, take, drop, take_while, Bool, false, not, ◌&&◌, ◌||◌, nat_eq, Option, Some, None, option_and_then, codes, bytes_eq, if◌then◌else◌}
use Rattle.std.specs.List.{starts_with, ends_with, list_all, list_any}
use Rattle.text_words.specs.Fronts.{behind}
use Rattle.text_words.specs.Pieces.{cut}
use Rattle.key_system_access.specs.declared.content.Medium.{Medium}
use Rattle.key_system_access.specs.declared.content.Medium.TheVariants.{Video, Audio}

-- a text without the spaces in front
abbrev pub skip_spaces : List ℕ → List ℕ
skip_spaces [] = []
skip_spaces (x ∷ xs) = if x == 32 then skip_spaces xs else x ∷ xs

-- what stands before an end
abbrev pub before : List ℕ → List ℕ → Option (List ℕ)
before end text = if ends_with nat_eq text end then Some (take (length text - length end) text) else None

-- the container of a medium
abbrev pub media_type : Medium → List ℕ
media_type Video = codes "video/mp4"
media_type Audio = codes "audio/mp4"

-- the supported codecs, by what stands before the first dot
abbrev pub families : Medium → List (List ℕ)
families Video = codes "avc1" ∷ codes "avc3" ∷ codes "hev1" ∷ codes "hvc1" ∷ codes "vp09" ∷ codes "av01" ∷ []
families Audio = codes "mp4a" ∷ codes "ac-3" ∷ codes "ec-3" ∷ codes "Opus" ∷ codes "fLaC" ∷ []

-- no space, comma, semicolon or double quote
abbrev pub is_codec_byte : ℕ → Bool
is_codec_byte b = not (b == 32 || b == 44 || b == 59 || b == 34)

-- any byte but a dot
abbrev pub is_no_dot : ℕ → Bool
is_no_dot b = not (b == 46)

-- a codec of a supported family; no family is the empty text
abbrev pub is_codec : Medium → List ℕ → Bool
is_codec medium codec = list_all is_codec_byte codec && list_any (bytes_eq (take_while is_no_dot codec)) (families medium)

-- one or more codecs, parted by a comma and any spaces
abbrev pub are_further : Medium → List (List ℕ) → Bool
are_further medium more = list_all (λ part. is_codec medium (skip_spaces part)) more

-- a first codec, and further ones
abbrev pub are_parts : Medium → List (List ℕ) → Bool
are_parts medium [] = false
are_parts medium (first ∷ more) = is_codec medium first && are_further medium more

-- the pieces between commas are codecs
unfoldable pub are_codecs : Medium → List ℕ → Bool
are_codecs medium text = are_parts medium (cut 44 text)

-- the list alone, or between two double quotes
unfoldable pub unquoted : List ℕ → Option (List ℕ)
unquoted text = if starts_with nat_eq text (codes "\"") then before (codes "\"") (drop 1 text) else Some text

-- what stands behind spaces and a front
abbrev pub behind_spaces : List ℕ → List ℕ → Option (List ℕ)
behind_spaces front text = behind front (skip_spaces text)

-- the list of codecs: the type, a semicolon and `codecs=`, with spaces around the semicolon alone
unfoldable pub codec_list : Medium → List ℕ → Option (List ℕ)
codec_list medium text = option_and_then unquoted (option_and_then (behind_spaces (codes "codecs=")) (option_and_then (behind_spaces (codes ";")) (behind (media_type medium) text)))

-- there is a list, and it is one of codecs
abbrev pub are_listed : Medium → Option (List ℕ) → Bool
are_listed medium None = false
are_listed medium (Some text) = are_codecs medium text

-- the content type names the container of the medium and supported codecs
abbrev pub is_content_type : Medium → List ℕ → Bool
is_content_type medium text = are_listed medium (codec_list medium text)
