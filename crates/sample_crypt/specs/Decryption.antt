-- Decryption of a sample, byte by byte (ISO/IEC 23001-7 sections 9.4 to 9.6 and 10).
use Rattle.std.specs.Prelude.{ℕ, zero, suc, bit_xor, List, length, map, take, drop, slice_index, Option, Some, None}
use Rattle.std.specs.List.{range_with_len}
use Rattle.eme_types.specs.declared.kid.KeyBytes.{KeyBytes}
use Rattle.eme_types.specs.declared.sample.EncSample.{EncSample}
use Rattle.eme_types.specs.declared.sample.Iv.{Iv}
use Rattle.eme_types.specs.declared.sample.Iv.TheVariants.{Eight, Sixteen}
use Rattle.eme_types.specs.declared.sample.Protect.{Protect}
use Rattle.aes128.specs.InverseCipher.{inv_cipher}
use Rattle.ctr_cbc.specs.KeyStream.{stream_byte}
use Rattle.pattern_map.specs.ByteClasses.{ByteClass, Clear, Protected, Block, protected_class, block_place}

-- the bytes of an IV
abbrev pub iv_bytes : Iv → List ℕ
iv_bytes (Eight bytes) = bytes
iv_bytes (Sixteen bytes) = bytes

-- the encrypted block of rank r in subsample s
abbrev pub encrypted_block : Protect → List ℕ → ℕ → ℕ → List ℕ
encrypted_block p bytes s r = take 16 (drop (block_place p (length bytes) s r) bytes)

-- what that block is chained to: the encrypted block of the rank before it, or the IV (SP 800-38A section 6.2)
abbrev pub chained_to : Protect → List ℕ → ℕ → ℕ → List ℕ
chained_to p bytes s zero = iv_bytes p.iv
chained_to p bytes s (suc r) = encrypted_block p bytes s r

-- byte i opened, which is of this class
abbrev pub opened_byte : List ℕ → Protect → List ℕ → ℕ → ByteClass → ℕ
opened_byte key p bytes i Clear = slice_index bytes i
opened_byte key p bytes i (Protected n) = bit_xor (slice_index bytes i) (stream_byte key (iv_bytes p.iv) n)
opened_byte key p bytes i (Block s r place) =
    bit_xor (slice_index (inv_cipher key (encrypted_block p bytes s r)) place) (slice_index (chained_to p bytes s r) place)

-- each byte opened by its class; an unprotected sample is its own decryption
abbrev pub decryption_of : List ℕ → Option Protect → List ℕ → List ℕ
decryption_of key None bytes = bytes
decryption_of key (Some p) bytes =
    map (λ i. opened_byte key p bytes i (protected_class p.scheme p (length bytes) i)) (range_with_len 0 (length bytes))

-- the bytes of a sample, opened with a key
abbrev pub decryption : EncSample → KeyBytes → List ℕ
decryption sample key = decryption_of key.bytes sample.protect sample.bytes
