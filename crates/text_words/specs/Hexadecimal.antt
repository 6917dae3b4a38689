-- Hexadecimal words.
use Rattle.std.specs.Prelude.{ℕ, List, Option}
use Rattle.std.specs.Result.{result_ok}
use Rattle.hex.specs.Hex.{decode_of}

-- the bytes that pairs of hexadecimal digits spell
unfoldable pub hex_bytes : List ℕ → Option (List ℕ)
hex_bytes word = result_ok (decode_of word)
