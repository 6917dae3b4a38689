-- Numbers and boxes as they are written (ISO/IEC 14496-12 section 4.2).
use Rattle.std.specs.Prelude.{ℕ, ◌+◌, List, ◌++◌, length, drop}
use Rattle.std.specs.Int.{w32, to_be_bytes}

-- a number of 24 bits
abbrev pub number24_body : ℕ → List ℕ
number24_body n = drop 1 (to_be_bytes w32 n)

-- a box: a size of 32 bits, the type and the body
unfoldable pub boxed : List ℕ → List ℕ → List ℕ
boxed kind body = to_be_bytes w32 (8 + length body) ++ kind ++ body
