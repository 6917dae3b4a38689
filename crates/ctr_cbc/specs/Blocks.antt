-- Blocks of 16 bytes (SP 800-38A, sections 4.2 and 6).
use Rattle.std.specs.Prelude.{ℕ, ◌*◌, bit_xor, List, slice_index, map, take, drop}
use Rattle.std.specs.List.{range_with_len}

-- block r of bytes, from 0
abbrev pub block : List ℕ → ℕ → List ℕ
block bytes r = take 16 (drop (r * 16) bytes)

-- the exclusive or of two blocks, byte by byte
unfoldable pub exclusive_or : List ℕ → List ℕ → List ℕ
exclusive_or a b = map (λ i. bit_xor (slice_index a i) (slice_index b i)) (range_with_len 0 16)
