-- What becomes of each byte of a sample (ISO/IEC 23001-7 sections 9.4 to 9.6 and 10).
use Rattle.std.specs.Prelude.{ℕ, zero, suc, ◌+◌, ◌-◌, ◌*◌, ◌/◌, ◌%◌, Bool, ◌&&◌, ◌||◌, ◌==◌, nat_lt, List, [], ◌∷◌, length, filter, slice_index, Option, Some, None, is_some, if◌then◌else◌}
use Rattle.std.specs.List.{range_with_len}
use Rattle.eme_types.specs.declared.sample.EncSample.{EncSample}
use Rattle.eme_types.specs.declared.sample.Protect.{Protect}
use Rattle.eme_types.specs.declared.sample.Scheme.{Scheme}
use Rattle.eme_types.specs.declared.sample.Scheme.TheVariants.{Cenc, Cbcs}
use Rattle.eme_types.specs.declared.sample.Sub.{Sub}

-- a byte left clear, byte n of the sample's protected bytes, or a byte of an encrypted block: its subsample, its rank and the place in it
pub data ByteClass : Type 0 where
  Clear : ByteClass
  Protected : ℕ → ByteClass
  Block : ℕ → ℕ → ℕ → ByteClass

-- where a protected byte stands: the number of its subsample, and its place in that one's protected part, whose size is given
pub record Spot : Type 0 where
  pub subsample : ℕ
  pub place : ℕ
  pub size : ℕ

-- a sample without subsamples counts as one, wholly protected (9.5.1)
abbrev pub subsamples : List Sub → ℕ → List Sub
subsamples [] size = record { clear = 0; prot = size } ∷ []
subsamples (s ∷ more) size = s ∷ more

-- where byte i of these subsamples stands, the first of which has number s; none where it is not protected
abbrev pub spot_from : ℕ → List Sub → ℕ → Option Spot
spot_from s [] i = None
spot_from s (p ∷ more) i =
    if nat_lt i p.clear then None
    else if nat_lt i (p.clear + p.prot) then Some (record { subsample = s; place = i - p.clear; size = p.prot })
    else spot_from (s + 1) more (i - (p.clear + p.prot))

-- byte i stands in the protected part of a subsample
abbrev pub is_protected : List Sub → ℕ → Bool
is_protected subs i = is_some (spot_from 0 subs i)

-- `cenc`: the protected bytes are counted over the whole sample (9.5.2)
abbrev pub stream_class : List Sub → ℕ → ByteClass
stream_class subs i = if is_protected subs i then Protected (length (filter (is_protected subs) (range_with_len 0 i))) else Clear

-- block q of a protected part is encrypted: crypt blocks are, skip blocks are not, and so on; without skip all are (9.6)
abbrev pub is_encrypted : ℕ → ℕ → ℕ → Bool
is_encrypted crypt skip q = skip == 0 || nat_lt (q % (crypt + skip)) crypt

-- the encrypted blocks among the first n, in order
abbrev pub encrypted_blocks : ℕ → ℕ → ℕ → List ℕ
encrypted_blocks crypt skip n = filter (is_encrypted crypt skip) (range_with_len 0 n)

-- the number of encrypted blocks before block q
abbrev pub rank : ℕ → ℕ → ℕ → ℕ
rank crypt skip q = length (encrypted_blocks crypt skip q)

-- `cbcs`: whole blocks are counted from the start of the protected part, and what is left behind them is clear (9.5.2, 9.6)
abbrev pub block_class : ℕ → ℕ → Option Spot → ByteClass
block_class crypt skip None = Clear
block_class crypt skip (Some x) =
    if nat_lt (x.place / 16) (x.size / 16) && is_encrypted crypt skip (x.place / 16)
    then Block x.subsample (rank crypt skip (x.place / 16)) (x.place % 16)
    else Clear

-- the class of byte i of a protected sample of this size
abbrev pub protected_class : Scheme → Protect → ℕ → ℕ → ByteClass
protected_class Cenc p size i = stream_class (subsamples p.subs size) i
protected_class Cbcs p size i = block_class p.crypt p.skip (spot_from 0 (subsamples p.subs size) i)

-- the class of byte i of a sample, where all bytes of an unprotected one are clear
abbrev pub class_in : Option Protect → ℕ → ℕ → ByteClass
class_in None size i = Clear
class_in (Some p) size i = protected_class p.scheme p size i

-- the class of byte i of a sample
abbrev pub byte_class : EncSample → ℕ → ByteClass
byte_class s i = class_in s.protect (length s.bytes) i

-- where block q of the protected part of subsample s begins
abbrev pub part_block : List Sub → ℕ → ℕ → ℕ
part_block [] s q = 0
part_block (p ∷ more) zero q = p.clear + 16 * q
part_block (p ∷ more) (suc s) q = p.clear + p.prot + part_block more s q

-- the size of the protected part of subsample s
abbrev pub part_size : List Sub → ℕ → ℕ
part_size [] s = 0
part_size (p ∷ more) zero = p.prot
part_size (p ∷ more) (suc s) = part_size more s

-- where the encrypted block of rank r in subsample s begins
abbrev pub block_place : Protect → ℕ → ℕ → ℕ → ℕ
block_place p size s r =
    let subs = subsamples p.subs size in
    part_block subs s (slice_index (encrypted_blocks p.crypt p.skip (part_size subs s / 16)) r)
