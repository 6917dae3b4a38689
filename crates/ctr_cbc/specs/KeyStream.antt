-- The key stream of counter mode (SP 800-38A, section 6.5) with the counter of ISO/IEC 23001-7, section 9.3.
use Rattle.std.specs.Prelude.{ℕ, ◌+◌, ◌/◌, ◌%◌, ◌^◌, ◌==◌, if◌then◌else◌, List, ◌++◌, length, take, drop, slice_index}
use Rattle.std.specs.Int.{w64, from_be_bytes, to_be_bytes}
use Rattle.aes128.specs.Cipher.{cipher}

-- counter block n of an IV of 8 bytes: the IV, and then n in 8 big-endian bytes. Of an IV of 16 bytes: its first 8
-- bytes, and then its last 8 as a number, n further, without a carry into the first
unfoldable pub counter_block : List ℕ → ℕ → List ℕ
counter_block iv n =
    if length iv == 8
    then iv ++ to_be_bytes w64 (n % 2 ^ 64)
    else take 8 iv ++ to_be_bytes w64 ((from_be_bytes w64 (drop 8 iv) + n) % 2 ^ 64)

-- byte n of the key stream
unfoldable pub stream_byte : List ℕ → List ℕ → ℕ → ℕ
stream_byte key iv n = slice_index (cipher key (counter_block iv (n / 16))) (n % 16)
