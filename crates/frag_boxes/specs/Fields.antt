-- The fields of the boxes of a movie and of its fragments (ISO/IEC 14496-12). What stands behind them in a box is not looked at.
use Rattle.std.specs.Prelude.{◌≡◌, ◌==◌, ◌||◌, if◌then◌else◌, ℕ, ℤ, Bool, List, [], Result}
use Rattle.std.specs.Int.{w8, w16, w32, w64}
use Rattle.eme_types.specs.FirstFault as first_fault
use Rattle.iso_boxes.specs.Reading.{Reading, ◌>>=◌, yield, number, number24, signed, given, repeated, has, some_bytes, broken}
use Rattle.frag_boxes.specs.declared.fault.FragKind.{FragKind}
use Rattle.frag_boxes.specs.declared.fault.FragKind.TheVariants.{Short, AudioVersion, Progressive, OutOfMemory}
use Rattle.frag_boxes.specs.declared.records.Tfhd.{Tfhd}
use Rattle.frag_boxes.specs.declared.records.RunItem.{RunItem}
use Rattle.frag_boxes.specs.declared.records.Trun.{Trun}
use Rattle.frag_boxes.specs.declared.records.TrackTrex.{TrackTrex}

-- what a reader returned, seen by view, is what the definition reads, unless memory ran out
abbrev pub Gives : {X Y : Type 0} → (X → Y) → Result X FragKind → Result Y FragKind → Type 0
Gives view result read = first_fault.Gives (λ e. e ≡ OutOfMemory) view result read

-- a number of 8 bits
abbrev pub u8 : Reading FragKind ℕ
u8 = number Short w8

-- a number of 24 bits
abbrev pub u24 : Reading FragKind ℕ
u24 = number24 Short

-- a number of 32 bits
abbrev pub u32 : Reading FragKind ℕ
u32 = number Short w32

-- a number of 64 bits
abbrev pub u64 : Reading FragKind ℕ
u64 = number Short w64

-- a signed number of 32 bits
abbrev pub i32 : Reading FragKind ℤ
i32 = signed Short

-- a track fragment header at a place (section 8.8.7)
unfoldable pub tfhd_fields : ℕ → Reading FragKind Tfhd
tfhd_fields place = do
  version ← u8
  flags ← u24
  track ← u32
  base ← given (has 0x1 flags) u64
  description ← given (has 0x2 flags) u32
  duration ← given (has 0x8 flags) u32
  size ← given (has 0x10 flags) u32
  sample_flags ← given (has 0x20 flags) u32
  yield (record { place = place; track = track; flags = flags; base = base; description = description; duration = duration; size = size; sample_flags = sample_flags })

-- what a run says of one sample (section 8.8.8)
unfoldable pub item : ℕ → Reading FragKind RunItem
item flags = do
  duration ← given (has 0x100 flags) u32
  size ← given (has 0x200 flags) u32
  sample_flags ← given (has 0x400 flags) u32
  composition ← given (has 0x800 flags) u32
  yield (record { duration = duration; size = size; flags = sample_flags; composition = composition })

-- a flag gives a field of each sample
abbrev pub has_items : ℕ → Bool
has_items flags = has 0x100 flags || has 0x200 flags || has 0x400 flags || has 0x800 flags

-- one item for each sample, where a flag gives it a field
abbrev pub items : ℕ → ℕ → Reading FragKind (List RunItem)
items count flags = if has_items flags then repeated count (item flags) else yield []

-- a run at a place (section 8.8.8)
unfoldable pub trun_fields : ℕ → Reading FragKind Trun
trun_fields place = do
  version ← u8
  flags ← u24
  count ← u32
  offset ← given (has 0x1 flags) i32
  first_flags ← given (has 0x4 flags) u32
  items ← items count flags
  yield (record { place = place; count = count; offset = offset; first_flags = first_flags; items = items })

-- the track id of a tkhd, behind two times of 32 bits in version 0 and of 64 bits in others (section 8.3.2)
unfoldable pub tkhd_fields : Reading FragKind ℕ
tkhd_fields = do
  version ← u8
  flags ← u24
  times ← some_bytes Short (if version == 0 then 8 else 16)
  u32

-- the count of an stsz, which is 0 in a movie that has its samples in fragments (section 8.7.3.2)
unfoldable pub stsz_fields : Reading FragKind ℕ
stsz_fields = do
  version ← u8
  flags ← u24
  size ← u32
  count ← u32
  if count == 0 then yield count else broken Progressive

-- the count of the entries of an stsd (section 8.5.2)
unfoldable pub stsd_fields : Reading FragKind ℕ
stsd_fields = do
  version ← u8
  flags ← u24
  u32

-- the version of an audio sample entry, behind 8 bytes, which is 0 (section 12.2.3)
unfoldable pub audio_version : Reading FragKind ℕ
audio_version = do
  before ← some_bytes Short 8
  version ← number Short w16
  if version == 0 then yield version else broken AudioVersion

-- what holds for the samples of a track where its fragments say nothing else (section 8.8.3)
unfoldable pub trex_fields : ℕ → Reading FragKind TrackTrex
trex_fields place = do
  version ← u8
  flags ← u24
  track ← u32
  description ← u32
  duration ← u32
  size ← u32
  sample_flags ← u32
  yield (record { track = track; trex = record { place = place; description = description; duration = duration; size = size; flags = sample_flags } })
