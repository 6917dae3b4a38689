-- What the ranges of a sample say of its byte classes.
use Rattle.std.specs.Prelude.{◌≡◌, ℕ, ◌+◌, ◌-◌, ◌/◌, ◌%◌, ◌<◌, ◌≤◌, ◌≢◌, Bool, true, false, ◌&&◌, ◌==◌, List, [], ◌∷◌, filter, length, not, Option, Some, None}
use Rattle.std.specs.List.{range_with_len}
use Rattle.eme_types.specs.declared.sample.EncSample.{EncSample}
use Rattle.eme_types.specs.declared.sample.Protect.{Protect}
use Rattle.eme_types.specs.declared.sample.Scheme.{Scheme}
use Rattle.eme_types.specs.declared.sample.Scheme.TheVariants.{Cenc, Cbcs}
use Rattle.pattern_map.specs.declared.range.ByteRange.{ByteRange}
use Rattle.pattern_map.specs.ByteClasses.{ByteClass, Clear, Protected, Block, Spot, byte_class, protected_class, spot_from, subsamples}

abbrev pub is_clear : ByteClass → Bool
is_clear Clear = true
is_clear (Protected n) = false
is_clear (Block s r place) = false

-- the class of the byte j places further in the same stream or chain
abbrev pub later : ByteClass → ℕ → ByteClass
later Clear j = Clear
later (Protected n) j = Protected (n + j)
later (Block s r place) j = Block s (r + (place + j) / 16) ((place + j) % 16)

-- a chain begins at the block of rank 0
abbrev pub begins_chain : ByteClass → Bool
begins_chain Clear = false
begins_chain (Protected n) = false
begins_chain (Block s r place) = place == 0 && r == 0

-- n bytes from this class on are whole blocks, where they are blocks
abbrev pub AreWhole : ByteClass → ℕ → Type 0
AreWhole Clear n = Unit {0}
AreWhole (Protected n) m = Unit {0}
AreWhole (Block s r place) n = (place ≡ 0) × (n % 16 ≡ 0)

-- the n bytes from this spot on are a whole protected part
abbrev pub IsWholePart : Option Spot → ℕ → Type 0
IsWholePart None n = ⊥
IsWholePart (Some x) n = (x.place ≡ 0) × (x.size ≡ n)

-- in `cenc` a range is the whole protected part of a subsample, in `cbcs` its chain does not go on behind it
abbrev pub IsLongestIn : Scheme → Protect → ℕ → ByteRange → Type 0
IsLongestIn Cenc p size r =
    IsWholePart (spot_from 0 (subsamples p.subs size) r.from) (r.to - r.from)
IsLongestIn Cbcs p size r =
    protected_class Cbcs p size r.to ≢ later (protected_class Cbcs p size r.from) (r.to - r.from)

abbrev pub IsLongest : Option Protect → ℕ → ByteRange → Type 0
IsLongest None size r = Unit {0}
IsLongest (Some p) size r = IsLongestIn p.scheme p size r

-- the next range from `start` on, where a stream or a chain would go on with class `next`
pub record IsRange (class : ℕ → ByteClass) (Longest : ByteRange → Type 0) (size start : ℕ) (next : ByteClass) (r : ByteRange) : Type 0 where
  pub order : start ≤ r.from
  pub some : r.from < r.to
  pub within : r.to ≤ size
  pub before : (i : ℕ) → start ≤ i → i < r.from → class i ≡ Clear
  pub encrypted : is_clear (class r.from) ≡ false
  pub bytes : (j : ℕ) → j < r.to - r.from → class (r.from + j) ≡ later (class r.from) j
  pub blocks : AreWhole (class r.from) (r.to - r.from)
  pub longest : Longest r
  pub fresh : r.fresh ≡ begins_chain (class r.from)
  pub follows : r.fresh ≡ false → class r.from ≡ next

-- the ranges from `start` on: all other bytes are clear
abbrev pub Cover : (ℕ → ByteClass) → (ByteRange → Type 0) → ℕ → ℕ → ByteClass → List ByteRange → Type 0
Cover class Longest size start next [] = (i : ℕ) → start ≤ i → i < size → class i ≡ Clear
Cover class Longest size start next (r ∷ more) =
    IsRange class Longest size start next r
    × Cover class Longest size r.to (later (class r.from) (r.to - r.from)) more

-- the ranges are the bytes of the sample that are not clear, in order
abbrev pub CoverSample : EncSample → List ByteRange → Type 0
CoverSample s ranges = Cover (byte_class s) (IsLongest s.protect (length s.bytes)) (length s.bytes) 0 (Protected 0) ranges

-- the bytes of a range
abbrev pub places_of : ByteRange → List ℕ
places_of r = range_with_len r.from (r.to - r.from)

-- the bytes of a sample that are not clear, in order
abbrev pub encrypted_places : EncSample → List ℕ
encrypted_places s = filter (λ i. not (is_clear (byte_class s i))) (range_with_len 0 (length s.bytes))
