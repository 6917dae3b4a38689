-- A movie and its tracks are gathered box after box.
use Rattle.std.proofs.Common.{◌≡◌, ℕ, List, [], ◌∷◌, ◌++◌, map, Option, Some, None, Result, Ok, refl, ◌∙◌, append_assoc}
use Rattle.std.specs.Prelude.{is_some}
use Rattle.std.proofs.lemmas.List.{append-nil}
use Rattle.iso_boxes.specs.Walk.{Found, Walked, inside}
use Rattle.iso_boxes.specs.Children.{◌>>=◌, required}
use Rattle.iso_boxes.proofs.Gathering.{Reader, Gathers, left, ends, chosen, chosen_more, chosen_none, known_more}
use Rattle.frag_boxes.specs.declared.fault.FragKind.TheVariants.{NoTrackId}
use Rattle.frag_boxes.specs.declared.fault.FragFault.{FragFault}
use Rattle.frag_boxes.specs.declared.records.MovieTrack.{MovieTrack}
use Rattle.frag_boxes.specs.declared.records.Movie.{Movie}
use Rattle.frag_boxes.specs.declared.moov.TrakPart.{TrakPart}
use Rattle.frag_boxes.specs.declared.moov.TrakPart.TheVariants as part
use Rattle.frag_boxes.specs.declared.moov.TrakParts.{TrakParts}
use Rattle.frag_boxes.specs.declared.moov.MoovPart.{MoovPart}
use Rattle.frag_boxes.specs.declared.moov.MoovPart.TheVariants as moov_part
use Rattle.frag_boxes.specs.declared.moov.MoovParts.{MoovParts}
use Rattle.frag_boxes.specs.Moof.{fault_at, header_fault}
use Rattle.frag_boxes.specs.Moov.{Seen, saw, ids, tables, track, trak_part_at, trak_at, moov_part_at, with_track, tracks_of, trexes_of, with_trex, mvex_part_at, mvex_at, moov_psshs, moov_at}
use Rattle.frag_boxes.specs.Table.{or_none, somes}
use Rattle.frag_boxes.specs.Gathering.{trak_added, moov_added, trex_added, whole_moov}
use Rattle.frag_boxes.specs.declared.records.TrackTrex.{TrackTrex}

abbrev pub seen_of : TrakParts → Seen
seen_of s = record { tkhd = is_some s.id; mdia = is_some s.table }

abbrev trak_closing : ℕ → TrakParts → List TrakPart → Result MovieTrack FragFault
trak_closing place s ps =
    required (fault_at place NoTrackId) (chosen s.id (ids ps)) >>= λ id.
    Ok (track place id (or_none (chosen s.table (tables ps))))

abbrev pub trak_reader : List MovieTrack → ℕ → Reader FragFault TrakPart Seen TrakParts MovieTrack
trak_reader tracks place = record { header = header_fault; read = trak_part_at tracks; learn = saw; know = seen_of; add = trak_added; finish = trak_closing place }

trak_knows : (s : TrakParts) (p : TrakPart) → seen_of (trak_added s p) ≡ saw (seen_of s) p
trak_knows s (part.Id id) = rw (known_more s.id id) refl
trak_knows s (part.Samples table) = rw (known_more s.table table) refl
trak_knows s part.Other = refl

trak_adds : (place : ℕ) (s : TrakParts) (p : TrakPart) (ps : List TrakPart) → trak_closing place s (p ∷ ps) ≡ trak_closing place (trak_added s p) ps
trak_adds place s (part.Id id) ps = rw (chosen_more s.id id (ids ps)) refl
trak_adds place s (part.Samples table) ps = rw (chosen_more s.table table (tables ps)) refl
trak_adds place s part.Other ps = refl

pub trak_gathers : (tracks : List MovieTrack) (place : ℕ) → Gathers (trak_reader tracks place)
trak_gathers tracks place = record { knows = trak_knows; adds = trak_adds place }

pub trak_starts : (tracks : List MovieTrack) (b : Found) → left (trak_reader tracks b.place) (record { id = None; table = None }) (inside b) ≡ trak_at tracks b
unfolding left trak_at
trak_starts tracks b = refl

abbrev pub whole_trak : ℕ → TrakParts → Result MovieTrack FragFault
whole_trak place s = required (fault_at place NoTrackId) s.id >>= λ id. Ok (track place id (or_none s.table))

pub trak_ends : (tracks : List MovieTrack) (place : ℕ) (s : TrakParts) (w : Walked) (total : Result MovieTrack FragFault) → w ≡ record { boxes = []; fault = None } → left (trak_reader tracks place) s w ≡ total → total ≡ whole_trak place s
trak_ends tracks place s w total e so_far = ends (trak_reader tracks place) s w total e so_far ∙ rw (chosen_none s.id, chosen_none s.table) refl

-- ---- the movie

abbrev moov_closing : ℕ → MoovParts → List MoovPart → Result Movie FragFault
moov_closing place s ps = Ok (record { place = place; tracks = map (with_trex (s.trexes ++ trexes_of ps)) (s.tracks ++ tracks_of ps); psshs = s.psshs ++ moov_psshs ps })

abbrev pub moov_reader : ℕ → Reader FragFault MoovPart (List MovieTrack) MoovParts Movie
moov_reader place = record { header = header_fault; read = moov_part_at; learn = with_track; know = λ s. s.tracks; add = moov_added; finish = moov_closing place }

moov_knows : (s : MoovParts) (p : MoovPart) → (moov_added s p).tracks ≡ with_track s.tracks p
moov_knows s (moov_part.Track t) = refl
moov_knows s (moov_part.Defaults trexes) = refl
moov_knows s (moov_part.Pssh x) = refl
moov_knows s moov_part.Other = refl

moov_adds : (place : ℕ) (s : MoovParts) (p : MoovPart) (ps : List MoovPart) → moov_closing place s (p ∷ ps) ≡ moov_closing place (moov_added s p) ps
moov_adds place s (moov_part.Track t) ps = simp append_assoc
moov_adds place s (moov_part.Defaults trexes) ps = simp append_assoc
moov_adds place s (moov_part.Pssh x) ps = simp append_assoc
moov_adds place s moov_part.Other ps = refl

pub moov_gathers : (place : ℕ) → Gathers (moov_reader place)
moov_gathers place = record { knows = moov_knows; adds = moov_adds place }

pub moov_starts : (b : Found) → left (moov_reader b.place) (record { tracks = []; trexes = []; psshs = [] }) (inside b) ≡ moov_at b
unfolding left moov_at
moov_starts b = refl

pub moov_ends : (place : ℕ) (s : MoovParts) (w : Walked) (total : Result Movie FragFault) → w ≡ record { boxes = []; fault = None } → left (moov_reader place) s w ≡ total → total ≡ Ok (whole_moov place s)
moov_ends place s w total e so_far = ends (moov_reader place) s w total e so_far ∙ simp append-nil

-- ---- the trex boxes

abbrev mvex_closing : List TrackTrex → List (Option TrackTrex) → Result (List TrackTrex) FragFault
mvex_closing s ps = Ok (s ++ somes ps)

abbrev pub mvex_reader : Reader FragFault (Option TrackTrex) (Unit {0}) (List TrackTrex) (List TrackTrex)
mvex_reader = record { header = header_fault; read = λ none b. mvex_part_at b; learn = λ none p. tt; know = λ s. tt; add = trex_added; finish = mvex_closing }

mvex_adds : (s : List TrackTrex) (p : Option TrackTrex) (ps : List (Option TrackTrex)) → mvex_closing s (p ∷ ps) ≡ mvex_closing (trex_added s p) ps
mvex_adds s None ps = refl
mvex_adds s (Some x) ps = simp append_assoc

pub mvex_gathers : Gathers mvex_reader
mvex_gathers = record { knows = λ s p. refl; adds = mvex_adds }

pub mvex_starts : (b : Found) → left mvex_reader [] (inside b) ≡ mvex_at b
unfolding left mvex_at
mvex_starts b = refl

pub mvex_ends : (s : List TrackTrex) (w : Walked) (total : Result (List TrackTrex) FragFault) → w ≡ record { boxes = []; fault = None } → left mvex_reader s w ≡ total → total ≡ Ok s
mvex_ends s w total e so_far = ends mvex_reader s w total e so_far ∙ simp append-nil
