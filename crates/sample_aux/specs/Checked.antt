-- The protection of a movie's sample entries (ISO/IEC 14496-12 section 8.12) and its group descriptions (section 8.9.3).
use Rattle.std.specs.Prelude.{ℕ, List, [], map, slice_get, Option, Some, None, Result, Ok, Err}
use Rattle.iso_boxes.specs.Walk.{Found}
use Rattle.iso_boxes.specs.Children.{◌>>=◌}
use Rattle.prot_boxes.specs.Sinf.{sinf_at}
use Rattle.prot_boxes.specs.Sgpd.{sgpd_at}
use Rattle.prot_boxes.specs.declared.fault.ProtFault.{ProtFault}
use Rattle.prot_boxes.specs.declared.fault.ProtKind.{ProtKind}
use Rattle.prot_boxes.specs.declared.fault.ProtKind.TheVariants as prot
use Rattle.prot_boxes.specs.declared.seig.Seig.{Seig}
use Rattle.prot_boxes.specs.declared.sgpd.Sgpd.{Sgpd}
use Rattle.prot_boxes.specs.declared.sinf.Sinf.{Sinf}
use Rattle.frag_boxes.specs.declared.records.Span.{Span}
use Rattle.frag_boxes.specs.declared.records.SampleEntry.{SampleEntry}
use Rattle.frag_boxes.specs.declared.records.MovieTrack.{MovieTrack}
use Rattle.frag_boxes.specs.declared.records.Movie.{Movie}
use Rattle.sample_aux.specs.declared.fault.AuxFault.{AuxFault}
use Rattle.sample_aux.specs.declared.protection.TrackProtection.{TrackProtection}
use Rattle.sample_aux.specs.declared.protection.MovieProtection.{MovieProtection}
use Rattle.sample_aux.specs.declared.fault.AuxKind.TheVariants.{Scheme}
use Rattle.sample_aux.specs.Faults.{fault_at, aux_fault, told}
use Rattle.sample_aux.specs.Spans.{boxes_at, first_given}
use Rattle.sample_aux.specs.InOrder.{each_passes}

-- ---- sample entries

-- a sinf whose first broken rule is the scheme is passed over
abbrev pub passed_over : ProtFault → ProtKind → Result (Option Sinf) AuxFault
passed_over f prot.Scheme = Ok None
passed_over f _ = Err (aux_fault f)

-- a sinf that is read, or passed over
abbrev pub if_known : Result Sinf ProtFault → Result (Option Sinf) AuxFault
if_known (Ok s) = Ok (Some s)
if_known (Err f) = passed_over f f.kind

-- a sinf of a scheme that is known (ISO/IEC 14496-12 section 8.12.1)
unfoldable pub known_sinf : Found → Result (Option Sinf) AuxFault
known_sinf b = if_known (sinf_at b)

-- an entry without sinf is clear; of the sinf boxes of another one is used, or the first is refused
abbrev pub used_of : Option Span → Option Sinf → Result (Option Sinf) AuxFault
used_of None used = Ok None
used_of (Some s) None = Err (fault_at s.place Scheme)
used_of (Some s) (Some used) = Ok (Some used)

-- what protects the samples of an entry; none where it is clear
unfoldable pub entry_protection : List ℕ → SampleEntry → Result (Option Sinf) AuxFault
entry_protection file entry = first_given known_sinf (boxes_at file entry.sinfs) >>= used_of (slice_get entry.sinfs 0)

-- ---- group descriptions

-- a sgpd of type seig
unfoldable pub told_groups : Found → Result (Option Sgpd) AuxFault
told_groups b = told (sgpd_at b)

-- the entries of the used sgpd; none without one
abbrev pub entries_or_none : Option Sgpd → List Seig
entries_or_none None = []
entries_or_none (Some s) = s.entries

-- the groups that the first of these boxes of type seig describes
unfoldable pub groups_in : List ℕ → List Span → Result (List Seig) AuxFault
groups_in file spans = first_given told_groups (boxes_at file spans) >>= λ used. Ok (entries_or_none used)

-- ---- the movie

-- a sample entry whose protection is not refused
abbrev pub entry_passes : List ℕ → SampleEntry → Result (Unit {0}) AuxFault
entry_passes file entry = entry_protection file entry >>= λ used. Ok tt

-- the sample entries in order, then the group descriptions
unfoldable pub track_passes : List ℕ → MovieTrack → Result (Unit {0}) AuxFault
track_passes file track = do
  entries ← each_passes (λ entry. entry_passes file entry) track.entries
  groups ← groups_in file track.groups
  Ok tt

-- each track in order
unfoldable pub movie_passes : List ℕ → Movie → Result (Unit {0}) AuxFault
movie_passes file movie = each_passes (λ track. track_passes file track) movie.tracks

-- ---- what is kept of a movie

-- what protects the samples of each sample entry, and the groups of the track, each of them or why it is refused
abbrev pub track_protection : List ℕ → MovieTrack → TrackProtection
track_protection file track = record { id = track.id; trex = track.trex; entries = map (λ entry. entry_protection file entry) track.entries; groups = groups_in file track.groups }

-- what a track fragment looks up of the tracks of its movie
abbrev pub movie_protection : List ℕ → Movie → MovieProtection
movie_protection file movie = record { tracks = map (λ track. track_protection file track) movie.tracks }

-- the ids of the tracks
abbrev pub protected_ids : MovieProtection → List ℕ
protected_ids known = map (λ (track : TrackProtection). track.id) known.tracks

-- a part is not refused
abbrev pub part_passes : {A : Type 0} → Result A AuxFault → Result (Unit {0}) AuxFault
part_passes told = told >>= λ part. Ok tt

-- the same of a track that was read
unfoldable pub protection_passes : TrackProtection → Result (Unit {0}) AuxFault
protection_passes track = do
  entries ← each_passes (λ (told : Result (Option Sinf) AuxFault). part_passes told) track.entries
  part_passes track.groups
