-- Where the samples of a track fragment lie in the file (ISO/IEC 14496-12 sections 8.8.7 and 8.8.8).
use Rattle.std.specs.Prelude.{ℕ, ◌-◌, ℤ, pos, ◌+ℤ◌, int_lt, unsigned_abs, nat_lt, Bool, ◌||◌, List, [], ◌∷◌, ◌++◌, slice_get, unwrap_or, Option, Some, None, Result, Ok, Err, if◌then◌else◌}
use Rattle.iso_boxes.specs.Children.{◌>>=◌}
use Rattle.iso_boxes.specs.Reading.{has}
use Rattle.frag_boxes.specs.declared.records.RunItem.{RunItem}
use Rattle.frag_boxes.specs.declared.records.Trun.{Trun}
use Rattle.frag_boxes.specs.declared.records.Tfhd.{Tfhd}
use Rattle.sample_aux.specs.declared.fault.AuxKind.TheVariants.{TooManySamples, TooManyBytes, DataPastEnd}
use Rattle.sample_aux.specs.declared.fault.AuxFault.{AuxFault}
use Rattle.sample_aux.specs.declared.laying.DataCursor.{DataCursor}
use Rattle.sample_aux.specs.declared.laying.SampleRange.{SampleRange}
use Rattle.sample_aux.specs.Faults.{fault_at}
use Rattle.sample_aux.specs.InOrder.{in_order, learnt}

-- data that is not whole inside the file: its first place is below 0, or its end is above the file's length
abbrev pub is_outside : ℕ → ℤ → ℕ → Bool
is_outside end at size = int_lt at (pos 0) || int_lt (pos end) (at +ℤ pos size)

-- ---- the base

-- the base data offset; else the start of the moof, where the flag says so; else the end of the data of the preceding track
-- fragment, which before the first is the start of the moof
abbrev pub base_in : Option ℕ → Bool → ℕ → ℤ → ℤ
base_in (Some base) at_moof start end = pos base
base_in None at_moof start end = if at_moof then pos start else end

-- the same, by the tfhd of the track fragment
abbrev pub base_of : ℕ → Tfhd → ℤ → ℤ
base_of start h end = base_in h.base (has 0x20000 h.flags) start end

-- ---- samples

-- a sample's size is that in the run, else the default
abbrev pub size_in : Option RunItem → ℕ → ℕ
size_in None default = default
size_in (Some i) default = unwrap_or i.size default

-- the size of sample k of a run
abbrev pub size_of : Trun → ℕ → ℕ → ℕ
size_of run default k = size_in (slice_get run.items k) default

-- the place of a sample that lies in the file whole, and its size
unfoldable pub range_at : ℕ → ℕ → DataCursor → ℕ → Result SampleRange AuxFault
range_at end place l size =
    if nat_lt l.bytes size then Err (fault_at place TooManyBytes)
    else if is_outside end l.at size then Err (fault_at place DataPastEnd)
    else Ok (record { place = unsigned_abs l.at; size = size })

-- the next sample begins where this one ends
abbrev pub after : DataCursor → SampleRange → DataCursor
after l range = record l { at = l.at +ℤ pos range.size; bytes = l.bytes - range.size }

-- ---- runs

-- the count of a run is taken from what is left of the samples
abbrev pub counted : Trun → DataCursor → DataCursor
counted run l = record l { samples = l.samples - run.count }

-- the samples of a run
unfoldable pub run_at : ℕ → ℕ → DataCursor → Trun → Result (List SampleRange) AuxFault
run_at end default l run =
    if nat_lt l.samples run.count then Err (fault_at run.place TooManySamples)
    else in_order (λ known k. range_at end run.place known (size_of run default k)) after (counted run l) 0 run.count

-- the samples of a run, and the cursor behind it
unfoldable pub run_laid : ℕ → ℕ → DataCursor → Trun → Result (List SampleRange × DataCursor) AuxFault
run_laid end default l run = do
  ranges ← run_at end default l run
  Ok (ranges, learnt after (counted run l) ranges)

-- a run begins at the base and its offset, or where the run before it ended
abbrev pub begin_at : ℤ → Option ℤ → ℤ → ℤ
begin_at base None at = at
begin_at base (Some offset) at = base +ℤ offset

-- the cursor where a run begins
abbrev pub begun : ℤ → Trun → DataCursor → DataCursor
begun base run l = record l { at = begin_at base run.offset l.at }

-- the samples of all runs in order, and the cursor behind the last
unfoldable pub runs_laid : ℕ → ℕ → ℤ → DataCursor → List Trun → Result (List SampleRange × DataCursor) AuxFault
runs_laid end default base l [] = Ok ([], l)
runs_laid end default base l (run ∷ runs) = do
  one ← run_laid end default (begun base run l) run
  others ← runs_laid end default base one.1 runs
  Ok (one.0 ++ others.0, others.1)
