-- Which part of 'well formed' a sample does not meet (ISO/IEC 23001-7 sections 9.4 to 9.6 and 10).
use Rattle.std.specs.Prelude.{ℕ, length, not, Option, Some, None, Result, Ok, Err, if◌then◌else◌}
use Rattle.eme_types.specs.declared.sample.EncSample.{EncSample}
use Rattle.eme_types.specs.declared.sample.Protect.{Protect}
use Rattle.eme_types.specs.WellFormed.{is_covered, iv_fits, pattern_fits}
use Rattle.pattern_map.specs.declared.check.SampleFault.{SampleFault}
use Rattle.pattern_map.specs.declared.check.SampleFault.TheVariants.{Sum, IvSize, Pattern}

-- the first part that does not hold: the sum of the subsamples, the size of the IV, the pattern
abbrev pub first_fault_of : Option Protect → ℕ → Result (Unit {0}) SampleFault
first_fault_of None size = Ok tt
first_fault_of (Some p) size =
    if not (is_covered p.subs size) then Err Sum
    else if not (iv_fits p.scheme p.iv) then Err IvSize
    else if not (pattern_fits p.scheme p.crypt p.skip) then Err Pattern
    else Ok tt

-- the first rule that a sample breaks
abbrev pub first_fault : EncSample → Result (Unit {0}) SampleFault
first_fault s = first_fault_of s.protect (length s.bytes)
