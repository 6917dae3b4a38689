-- The ranges that are still to come in a walk over a sample.
use Rattle.std.specs.Prelude.{ℕ, zero, suc, ◌+◌, ◌-◌, ◌*◌, ◌/◌, ◌==◌, min, Bool, true, false, List, [], ◌∷◌, ◌++◌, if◌then◌else◌}
use Rattle.eme_types.specs.declared.sample.Scheme.{Scheme}
use Rattle.eme_types.specs.declared.sample.Scheme.TheVariants.{Cenc, Cbcs}
use Rattle.eme_types.specs.declared.sample.Sub.{Sub}
use Rattle.pattern_map.specs.declared.range.ByteRange.{ByteRange}

-- how far a run and the gap behind it reach in n bytes
abbrev pub step_of : ℕ → ℕ → ℕ → ℕ
step_of run gap n = min run n + min gap (n - min run n)

-- the runs among the n bytes from a on, at most k of them, of which only the first may be fresh
unfoldable pub runs_from : ℕ → ℕ → ℕ → ℕ → ℕ → Bool → List ByteRange
runs_from zero run gap a n fresh = []
runs_from (suc k) run gap a zero fresh = []
runs_from (suc k) run gap a (suc n) fresh =
    record { from = a; to = a + min run (suc n); fresh = fresh }
    ∷ runs_from k run gap (a + step_of run gap (suc n)) (suc n - step_of run gap (suc n)) false

abbrev pub runs : ℕ → ℕ → ℕ → ℕ → Bool → List ByteRange
runs run gap a n fresh = runs_from n run gap a n fresh

-- the bytes of the whole blocks among n bytes
abbrev pub whole_blocks : ℕ → ℕ
whole_blocks n = n / 16 * 16

-- the ranges of a protected part of this size, which begins at a
abbrev pub part_ranges : Scheme → ℕ → ℕ → ℕ → ℕ → List ByteRange
part_ranges Cenc crypt skip a size = runs size 0 a size false
part_ranges Cbcs crypt skip a size =
    if skip == 0 then runs (whole_blocks size) 0 a (whole_blocks size) true
    else runs (crypt * 16) (skip * 16) a (whole_blocks size) true

-- the ranges of subsamples, the first of which begins at a
abbrev pub ranges_from : Scheme → ℕ → ℕ → ℕ → List Sub → List ByteRange
ranges_from scheme crypt skip a [] = []
ranges_from scheme crypt skip a (p ∷ more) =
    part_ranges scheme crypt skip (a + p.clear) p.prot
    ++ ranges_from scheme crypt skip (a + p.clear + p.prot) more
