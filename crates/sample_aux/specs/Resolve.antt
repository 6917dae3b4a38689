-- A movie fragment resolved: its samples with their protection (ISO/IEC 14496-12 section 8.8, ISO/IEC 23001-7).
use Rattle.std.specs.Prelude.{ℕ, ◌-◌, ℤ, pos, Bool, true, false, filter, ◌==◌, List, [], ◌∷◌, ◌++◌, length, slice_get, unwrap_or, Option, Some, None, Result, Ok, Err, if◌then◌else◌}
use Rattle.eme_types.specs.declared.sample.EncSample.{EncSample}
use Rattle.eme_types.specs.declared.sample.Protect.{Protect}
use Rattle.eme_types.specs.declared.sample.Iv.{Iv}
use Rattle.eme_types.specs.declared.media.TrackPart.{TrackPart}
use Rattle.eme_types.specs.declared.media.Fragment.{Fragment}
use Rattle.eme_types.specs.Fed.{has_samples}
use Rattle.iso_boxes.specs.Children.{◌>>=◌, required}
use Rattle.prot_boxes.specs.declared.senc.SencItem.{SencItem}
use Rattle.frag_boxes.specs.declared.records.Movie.{Movie}
use Rattle.frag_boxes.specs.declared.records.Traf.{Traf}
use Rattle.frag_boxes.specs.declared.records.Moof.{Moof}
use Rattle.pattern_map.specs.SampleFaults.{first_fault}
use Rattle.pattern_map.specs.declared.check.SampleFault.{SampleFault}
use Rattle.sample_aux.specs.declared.fault.AuxKind.TheVariants.{UnknownTrack, NoTrex, Description, NoAux}
use Rattle.sample_aux.specs.declared.fault.AuxFault.{AuxFault}
use Rattle.sample_aux.specs.declared.groups.SampleProtection.{SampleProtection}
use Rattle.sample_aux.specs.declared.groups.Protection.{Protection}
use Rattle.sample_aux.specs.declared.protection.TrackProtection.{TrackProtection}
use Rattle.sample_aux.specs.declared.protection.MovieProtection.{MovieProtection}
use Rattle.sample_aux.specs.declared.laying.DataCursor.{DataCursor}
use Rattle.sample_aux.specs.declared.laying.SampleRange.{SampleRange}
use Rattle.sample_aux.specs.declared.fragment.Room.{Room}
use Rattle.sample_aux.specs.Faults.{fault_at, sample_kind}
use Rattle.sample_aux.specs.Spans.{part_of}
use Rattle.sample_aux.specs.Inits.{inits_of}
use Rattle.sample_aux.specs.InOrder.{each_number, each_passes}
use Rattle.sample_aux.specs.Laying.{base_of, runs_laid}
use Rattle.sample_aux.specs.Checked.{movie_protection}
use Rattle.sample_aux.specs.Groups.{protection_of}
use Rattle.sample_aux.specs.Auxiliary.{auxiliary_of, rule_of, nothing}

-- ---- the track and its sample entry

-- the first with the id
abbrev pub track_with : ℕ → List TrackProtection → Option TrackProtection
track_with id [] = None
track_with id (t ∷ ts) = if t.id == id then Some t else track_with id ts

-- sample entries are counted from 1
abbrev pub entry_with : {A : Type 0} → ℕ → List A → Option A
entry_with index entries = if index == 0 then None else slice_get entries (index - 1)

-- ---- a sample

-- a sample's own IV, else the constant one
abbrev pub iv_of : Option Iv → Option Iv → Option Iv
iv_of (Some iv) constant = Some iv
iv_of None constant = constant

-- how a sample is protected
abbrev pub protect_of : ℕ → Option SampleProtection → SencItem → Result (Option Protect) AuxFault
protect_of place None item = Ok None
protect_of place (Some r) item =
    required (fault_at place NoAux) (iv_of item.iv r.group.constant)
    >>= λ iv. Ok (Some (record { scheme = r.scheme; kid = r.group.kid; iv = iv; crypt = r.group.crypt; skip = r.group.skip; subs = item.subs }))

-- what auxiliary data says of sample k; nothing past its end
abbrev pub item_of : List SencItem → ℕ → SencItem
item_of items k = unwrap_or (slice_get items k) nothing

-- where sample k stands
abbrev pub place_of : List SampleRange → ℕ → SampleRange
place_of ranges k = unwrap_or (slice_get ranges k) (record { place = 0; size = 0 })

-- the bytes of a sample
abbrev pub bytes_at : List ℕ → SampleRange → List ℕ
bytes_at file range = part_of file range.place range.size

-- a sample with its protection
unfoldable pub sample_at : List ℕ → ℕ → SampleRange → Option SampleProtection → SencItem → Result EncSample AuxFault
sample_at file place range rule item = protect_of place rule item >>= λ protect. Ok (record { protect = protect; bytes = bytes_at file range })

-- all samples, in order
unfoldable pub samples_at : List ℕ → ℕ → List SampleRange → List (Option SampleProtection) → List SencItem → Result (List EncSample) AuxFault
samples_at file place ranges rules items = each_number (λ k. sample_at file place (place_of ranges k) (rule_of rules k) (item_of items k)) (length ranges)

-- ---- the checks of a whole sample

-- a sample that has subsamples
abbrev pub has_subs : Option Protect → Bool
has_subs None = false
has_subs (Some p) = if length p.subs == 0 then false else true

-- subsamples are from the used senc, where there is one
abbrev pub check_place : Option ℕ → ℕ → EncSample → ℕ
check_place senc traf s = if has_subs s.protect then unwrap_or senc traf else traf

-- the broken rule of a sample, at a place
abbrev pub as_fault : ℕ → Result (Unit {0}) SampleFault → Result (Unit {0}) AuxFault
as_fault place (Ok passed) = Ok tt
as_fault place (Err f) = Err (fault_at place (sample_kind f))

-- the checks of a whole sample
abbrev pub sample_passes : Option ℕ → ℕ → EncSample → Result (Unit {0}) AuxFault
sample_passes senc traf s = as_fault (check_place senc traf s) (first_fault s)

-- ---- a track fragment

-- the samples of a track fragment, of which places and sizes are known
unfoldable pub samples_of : List ℕ → Traf → ℤ → List SampleRange → Protection → Result (List EncSample) AuxFault
samples_of file traf base ranges protection = do
  auxiliary ← auxiliary_of file protection.entry traf base protection.rules
  samples ← samples_at file traf.place ranges protection.rules auxiliary.items
  passed ← each_passes (λ s. sample_passes auxiliary.senc traf.place s) samples
  Ok samples

-- the samples and the cursor behind them
unfoldable pub traf_resolved : List ℕ → MovieProtection → ℕ → DataCursor → Traf → Result (TrackPart × DataCursor) AuxFault
traf_resolved file known start l traf = do
  track ← required (fault_at traf.tfhd.place UnknownTrack) (track_with traf.tfhd.track known.tracks)
  trex ← required (fault_at traf.tfhd.place NoTrex) track.trex
  entry ← required (fault_at traf.tfhd.place Description) (entry_with (unwrap_or traf.tfhd.description trex.description) track.entries)
  laid ← runs_laid (length file) (unwrap_or traf.tfhd.size trex.size) (base_of start traf.tfhd l.at) (record l { at = base_of start traf.tfhd l.at }) traf.runs
  protection ← protection_of file entry track.groups traf (length laid.0)
  samples ← samples_of file traf (base_of start traf.tfhd l.at) laid.0 protection
  Ok (record { track = track.id; samples = samples }, laid.1)

-- ---- a movie fragment

-- each track fragment in order
unfoldable pub trafs_resolved : List ℕ → MovieProtection → ℕ → DataCursor → List Traf → Result (List TrackPart) AuxFault
trafs_resolved file known start l [] = Ok []
trafs_resolved file known start l (traf ∷ trafs) = do
  one ← traf_resolved file known start l traf
  others ← trafs_resolved file known start one.1 trafs
  Ok (one.0 ∷ others)

-- the samples of a part of the same track go to the end of a part; else the part is left
abbrev pub met : TrackPart → Option TrackPart → TrackPart × Option TrackPart
met q None = (q, None)
met q (Some p) = if q.track == p.track then (record q { samples = q.samples ++ p.samples }, None) else (q, Some p)

-- a part put behind the others, or joined to that of its track
abbrev pub put_part : List TrackPart → TrackPart → List TrackPart
put_part [] p = p ∷ []
put_part (q ∷ qs) p = if q.track == p.track then record q { samples = q.samples ++ p.samples } ∷ qs else q ∷ put_part qs p

-- parts behind which one may still be left
abbrev pub put_left : List TrackPart → Option TrackPart → List TrackPart
put_left qs None = qs
put_left qs (Some p) = put_part qs p

-- parts of one track are joined in the place of the first
abbrev pub joined : List TrackPart → List TrackPart → List TrackPart
joined parts [] = parts
joined parts (p ∷ ps) = joined (put_part parts p) ps

-- the parts of all track fragments, joined
abbrev pub all_joined : List TrackPart → Result (List TrackPart) AuxFault → Result (List TrackPart) AuxFault
all_joined parts (Ok more) = Ok (joined parts more)
all_joined parts (Err e) = Err e

-- before the first track fragment the end of the data is the start of the moof
abbrev pub begin : Moof → Room → DataCursor
begin moof room = record { at = pos moof.place; samples = room.samples; bytes = room.bytes }

-- a track without samples has no part
abbrev pub fragment_of : List ℕ → Moof → List TrackPart → Fragment
fragment_of file moof parts = record { inits = inits_of file moof.psshs; parts = filter has_samples parts }

-- by what was read of the movie
unfoldable pub known_resolved : List ℕ → MovieProtection → Moof → Room → Result Fragment AuxFault
known_resolved file known moof room = all_joined [] (trafs_resolved file known moof.place (begin moof room) moof.trafs) >>= λ parts. Ok (fragment_of file moof parts)

-- by the boxes of the movie
abbrev pub resolved : List ℕ → Movie → Moof → Room → Result Fragment AuxFault
resolved file movie moof room = known_resolved file (movie_protection file movie) moof room
