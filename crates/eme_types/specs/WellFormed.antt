-- What a sample must meet before it can be opened (ISO/IEC 23001-7 sections 9.4 to 9.6 and 10).
use Rattle.std.specs.Prelude.{ℕ, ◌+◌, ◌==◌, Bool, true, false, not, ◌&&◌, ◌||◌, List, [], ◌∷◌, length, Option, Some, None}
use Rattle.std.specs.List.{sum_by}
use Rattle.eme_types.specs.declared.sample.EncSample.{EncSample}
use Rattle.eme_types.specs.declared.sample.Protect.{Protect}
use Rattle.eme_types.specs.declared.sample.Sub.{Sub}
use Rattle.eme_types.specs.declared.sample.Iv.{Iv}
use Rattle.eme_types.specs.declared.sample.Iv.TheVariants.{Eight, Sixteen}
use Rattle.eme_types.specs.declared.sample.Scheme.{Scheme}
use Rattle.eme_types.specs.declared.sample.Scheme.TheVariants.{Cenc, Cbcs}

-- the bytes of a subsample, clear and protected
abbrev pub sub_length : Sub → ℕ
sub_length s = s.clear + s.prot

-- there are no subsamples, or they are as long as the sample
abbrev pub is_covered : List Sub → ℕ → Bool
is_covered [] size = true
is_covered (s ∷ more) size = sum_by sub_length (s ∷ more) == size

-- `cbcs` takes an IV of 16 bytes
abbrev pub iv_fits : Scheme → Iv → Bool
iv_fits Cenc iv = true
iv_fits Cbcs (Eight bytes) = false
iv_fits Cbcs (Sixteen bytes) = true

-- in `cbcs` a pattern that skips also encrypts
abbrev pub pattern_fits : Scheme → ℕ → ℕ → Bool
pattern_fits Cenc crypt skip = true
pattern_fits Cbcs crypt skip = not (crypt == 0) || skip == 0

-- the subsamples, the IV and the pattern fit the sample and its scheme
abbrev pub is_well_protected : Option Protect → ℕ → Bool
is_well_protected None size = true
is_well_protected (Some p) size = is_covered p.subs size && iv_fits p.scheme p.iv && pattern_fits p.scheme p.crypt p.skip

-- the sample can be opened
abbrev pub is_well_formed : EncSample → Bool
is_well_formed s = is_well_protected s.protect (length s.bytes)
