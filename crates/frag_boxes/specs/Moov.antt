-- A movie, moov (ISO/IEC 14496-12 section 8.2.1): its boxes in file order, each whole; a rule on a missing box at its end.
use Rattle.std.specs.Prelude.{ℕ, Bool, ◌||◌, true, false, List, [], ◌∷◌, ◌++◌, length, map, nat_lt, Option, Some, None, Result, Ok, Err, codes, bytes_eq, ◌==◌, if◌then◌else◌}
use Rattle.eme_types.specs.declared.limits.TheConstants.{MAX_TRACKS}
use Rattle.iso_boxes.specs.Walk.{Found, inside}
use Rattle.iso_boxes.specs.Children.{◌>>=◌, all_read, all_knowing, required, first, placed}
use Rattle.frag_boxes.specs.declared.fault.FragKind.TheVariants.{NoTrackId, SecondTrack, TooManyTracks}
use Rattle.frag_boxes.specs.declared.fault.FragFault.{FragFault}
use Rattle.frag_boxes.specs.declared.records.Span.{Span}
use Rattle.frag_boxes.specs.declared.records.MovieTrack.{MovieTrack}
use Rattle.frag_boxes.specs.declared.records.Trex.{Trex}
use Rattle.frag_boxes.specs.declared.records.TrackTrex.{TrackTrex}
use Rattle.frag_boxes.specs.declared.records.Movie.{Movie}
use Rattle.frag_boxes.specs.declared.moov.MoovBox.{MoovBox}
use Rattle.frag_boxes.specs.declared.moov.MoovBox.TheVariants as moov
use Rattle.frag_boxes.specs.declared.table.Table.{Table}
use Rattle.frag_boxes.specs.declared.moov.TrakBox.{TrakBox}
use Rattle.frag_boxes.specs.declared.moov.TrakBox.TheVariants as trak
use Rattle.frag_boxes.specs.declared.moov.TrakPart.{TrakPart}
use Rattle.frag_boxes.specs.declared.moov.TrakPart.TheVariants as part
use Rattle.frag_boxes.specs.declared.moov.MoovPart.{MoovPart}
use Rattle.frag_boxes.specs.declared.moov.MoovPart.TheVariants as moov_part
use Rattle.frag_boxes.specs.Fields.{tkhd_fields, trex_fields}
use Rattle.frag_boxes.specs.Moof.{fault_at, header_fault, span}
use Rattle.frag_boxes.specs.Table.{is, somes, or_none, mdia_at}

-- ---- a track, trak (section 8.3.1)

-- a track has this id
abbrev pub among : ℕ → List MovieTrack → Bool
among id [] = false
among id (t ∷ ts) = (t.id == id) || among id ts

-- no two tracks have one id
abbrev pub new_id : List MovieTrack → Found → ℕ → Result ℕ FragFault
new_id tracks b id = if among id tracks then Err (fault_at b.place SecondTrack) else Ok id

-- the track id that a tkhd gives
unfoldable pub tkhd_at : List MovieTrack → Found → Result ℕ FragFault
tkhd_at tracks b = placed (fault_at b.place) (tkhd_fields b.body) >>= new_id tracks b

-- the types of boxes that are read here
unfoldable pub trak_box : List ℕ → TrakBox
trak_box kind = if bytes_eq kind (codes "tkhd") then trak.Tkhd else if bytes_eq kind (codes "mdia") then trak.Mdia else trak.Other

-- whether a tkhd and an mdia are among what was read
pub record Seen : Type 0 where
  pub tkhd : Bool
  pub mdia : Bool

-- what is read of one box; of several tkhd or mdia the first is read, and the others are passed over
abbrev pub trak_part_as : TrakBox → List MovieTrack → Seen → Found → Result TrakPart FragFault
trak_part_as trak.Tkhd tracks seen b = if seen.tkhd then Ok part.Other else (tkhd_at tracks b >>= λ id. Ok (part.Id id))
trak_part_as trak.Mdia tracks seen b = if seen.mdia then Ok part.Other else (mdia_at b >>= λ table. Ok (part.Samples table))
trak_part_as trak.Other tracks seen b = Ok part.Other

-- what is read of one box by its type
abbrev pub trak_part_at : List MovieTrack → Seen → Found → Result TrakPart FragFault
trak_part_at tracks seen b = trak_part_as (trak_box b.kind) tracks seen b

-- what is among what was read, with this part
abbrev pub saw : Seen → TrakPart → Seen
saw seen (part.Id id) = record seen { tkhd = true }
saw seen (part.Samples table) = record seen { mdia = true }
saw seen part.Other = seen

-- its ids
abbrev pub ids : List TrakPart → List ℕ
ids [] = []
ids (part.Id id ∷ ps) = id ∷ ids ps
ids (_ ∷ ps) = ids ps

-- its sample tables
abbrev pub tables : List TrakPart → List Table
tables [] = []
tables (part.Samples table ∷ ps) = table ∷ tables ps
tables (_ ∷ ps) = tables ps

-- a track; its trex is looked up at the end of the movie
abbrev pub track : ℕ → ℕ → Table → MovieTrack
track place id table = record { place = place; id = id; entries = table.entries; trex = None; groups = table.groups }

-- a track has an id
abbrev pub track_from : ℕ → List TrakPart → Result MovieTrack FragFault
track_from place ps = do
  id ← required (fault_at place NoTrackId) (first (ids ps))
  Ok (track place id (or_none (first (tables ps))))

-- a track, where these tracks stand before it
unfoldable pub trak_at : List MovieTrack → Found → Result MovieTrack FragFault
trak_at tracks b = all_knowing header_fault (trak_part_at tracks) saw (record { tkhd = false; mdia = false }) (inside b) >>= track_from b.place

-- ---- what holds for samples of which the fragments say nothing, mvex (section 8.8.1)

-- a trex; other boxes are passed over
unfoldable pub mvex_part_at : Found → Result (Option TrackTrex) FragFault
mvex_part_at b = if is (codes "trex") b then (placed (fault_at b.place) (trex_fields b.place b.body) >>= λ t. Ok (Some t)) else Ok None

-- the trex boxes, in file order
unfoldable pub mvex_at : Found → Result (List TrackTrex) FragFault
mvex_at b = all_read header_fault mvex_part_at (inside b) >>= λ parts. Ok (somes parts)

-- the first with the track's id
abbrev pub trex_of : ℕ → List TrackTrex → Option Trex
trex_of id [] = None
trex_of id (t ∷ ts) = if t.track == id then Some t.trex else trex_of id ts

-- a track with the trex of its id
abbrev pub with_trex : List TrackTrex → MovieTrack → MovieTrack
with_trex trexes t = record t { trex = trex_of t.id trexes }

-- ---- the movie

-- the types of boxes that are read here
unfoldable pub moov_box : List ℕ → MoovBox
moov_box kind = if bytes_eq kind (codes "trak") then moov.Trak else if bytes_eq kind (codes "mvex") then moov.Mvex else if bytes_eq kind (codes "pssh") then moov.Pssh else moov.Other

-- a track past the limit is refused before anything in it is read
abbrev pub moov_part_as : MoovBox → List MovieTrack → Found → Result MoovPart FragFault
moov_part_as moov.Trak tracks b =
    if nat_lt (length tracks) MAX_TRACKS then (trak_at tracks b >>= λ t. Ok (moov_part.Track t)) else Err (fault_at b.place TooManyTracks)
moov_part_as moov.Mvex tracks b = mvex_at b >>= λ trexes. Ok (moov_part.Defaults trexes)
moov_part_as moov.Pssh tracks b = Ok (moov_part.Pssh (span b))
moov_part_as moov.Other tracks b = Ok moov_part.Other

-- what is read of one box by its type
abbrev pub moov_part_at : List MovieTrack → Found → Result MoovPart FragFault
moov_part_at tracks b = moov_part_as (moov_box b.kind) tracks b

-- the tracks so far, with this part
abbrev pub with_track : List MovieTrack → MoovPart → List MovieTrack
with_track tracks (moov_part.Track t) = tracks ++ t ∷ []
with_track tracks _ = tracks

-- its tracks
abbrev pub tracks_of : List MoovPart → List MovieTrack
tracks_of [] = []
tracks_of (moov_part.Track t ∷ ps) = t ∷ tracks_of ps
tracks_of (_ ∷ ps) = tracks_of ps

-- its initialization data
abbrev pub moov_psshs : List MoovPart → List Span
moov_psshs [] = []
moov_psshs (moov_part.Pssh x ∷ ps) = x ∷ moov_psshs ps
moov_psshs (_ ∷ ps) = moov_psshs ps

-- the trex boxes of each mvex
abbrev pub trexes_of : List MoovPart → List TrackTrex
trexes_of [] = []
trexes_of (moov_part.Defaults trexes ∷ ps) = trexes ++ trexes_of ps
trexes_of (_ ∷ ps) = trexes_of ps

-- a movie; each track has the first trex of its id
unfoldable pub moov_at : Found → Result Movie FragFault
moov_at b = do
  parts ← all_knowing header_fault moov_part_at with_track [] (inside b)
  Ok (record { place = b.place; tracks = map (with_trex (trexes_of parts)) (tracks_of parts); psshs = moov_psshs parts })
