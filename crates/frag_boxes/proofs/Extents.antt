-- The boxes that a movie and a fragment name, and that a fragment's samples are read from, have together no more bytes than the box
-- that was read.
use Rattle.std.proofs.Common.{◌≡◌, ℕ, ◌+◌, ◌-◌, ◌≤◌, Bool, true, false, cond, List, [], ◌∷◌, ◌++◌, length, map, Result, Ok, Err, refl, arith}
use Rattle.std.specs.Prelude.{IfOk, nat_lt, ◌==◌, bytes_eq, codes}
use Rattle.std.specs.List.{sum_by}
use Rattle.std.proofs.lemmas.List.Sums.{sum_by-cons, sum_by-append}
use Rattle.eme_types.specs.declared.limits.TheConstants.{MAX_TRACKS}
use Rattle.iso_boxes.specs.Walk.{Found, inside}
use Rattle.iso_boxes.specs.Children.{◌>>=◌, required, first, placed}
use Rattle.frag_boxes.specs.declared.fault.FragKind.TheVariants.{NoTfhd}
use Rattle.frag_boxes.specs.declared.fault.FragFault.{FragFault}
use Rattle.frag_boxes.specs.declared.records.Span.{Span}
use Rattle.frag_boxes.specs.declared.records.Traf.{Traf}
use Rattle.frag_boxes.specs.declared.records.Moof.{Moof}
use Rattle.frag_boxes.specs.declared.records.Movie.{Movie}
use Rattle.frag_boxes.specs.declared.kinds.TrafBox.{TrafBox}
use Rattle.frag_boxes.specs.declared.kinds.TrafBox.TheVariants as traf
use Rattle.frag_boxes.specs.declared.kinds.MoofBox.{MoofBox}
use Rattle.frag_boxes.specs.declared.kinds.MoofBox.TheVariants as moof
use Rattle.frag_boxes.specs.declared.moof.TrafPart.{TrafPart}
use Rattle.frag_boxes.specs.declared.moof.TrafPart.TheVariants as traf_part
use Rattle.frag_boxes.specs.declared.moof.MoofPart.{MoofPart}
use Rattle.frag_boxes.specs.declared.moof.MoofPart.TheVariants as moof_part
use Rattle.frag_boxes.specs.declared.moov.MoovBox.{MoovBox}
use Rattle.frag_boxes.specs.declared.moov.MoovBox.TheVariants as moov
use Rattle.frag_boxes.specs.declared.moov.MoovPart.{MoovPart}
use Rattle.frag_boxes.specs.declared.moov.MoovPart.TheVariants as moov_part
use Rattle.frag_boxes.specs.declared.records.MovieTrack.{MovieTrack}
use Rattle.frag_boxes.specs.Fields.{tfhd_fields, trun_fields}
use Rattle.frag_boxes.specs.Moof.{GivesBox, fault_at, header_fault, span, traf_box, part_as, part_at, head_seen, heads, runs, span_if, spans_of, traf_from, traf_at, moof_box, moof_part_as, moof_part_at, trafs, psshs, moof_at}
use Rattle.frag_boxes.specs.Moov.{trak_at, mvex_at, with_trex, moov_box, moov_part_as, moov_part_at, with_track, tracks_of, moov_psshs, trexes_of, moov_at}
use Rattle.frag_boxes.specs.Extents.{span_bytes, senc_bytes, movie_bytes, moof_bytes}
use Rattle.frag_boxes.proofs.Taking.{then_ok, not_else, total, whole, whole_took, all_within}
use Rattle.frag_boxes.proofs.Few.{same_size}

inside_whole : (b : Found) → total whole (inside b).boxes ≤ length b.body
inside_whole b = whole_took b.body b.body_place false

-- ---- a track fragment

abbrev traf_size : TrafPart → ℕ
traf_size (traf_part.Head h) = 0
traf_size (traf_part.Run r) = 0
traf_size (traf_part.Placed k x) = span_bytes x
traf_size traf_part.Other = 0

traf_whole : (k : TrafBox) (seen : Bool) (b : Found) (p : TrafPart) → part_as k seen b ≡ Ok p → traf_size p ≤ whole b
traf_whole traf.Tfhd true b p h = same_size traf_size traf_part.Other p _ (omega arith) cc
traf_whole traf.Tfhd false b p h =
    let q = then_ok (placed (fault_at b.place) (tfhd_fields b.place b.body)) _ p h in
    same_size traf_size (traf_part.Head q.0) p _ (omega arith) cc
traf_whole traf.Trun seen b p h =
    let q = then_ok (placed (fault_at b.place) (trun_fields b.place b.body)) _ p h in
    same_size traf_size (traf_part.Run q.0) p _ (omega arith) cc
traf_whole traf.Other seen b p h = same_size traf_size (traf_part.Placed b.kind (span b)) p _ (omega arith) cc

placed_bytes : (c : Bool) (x : Span) (rest : List Span) → sum_by span_bytes (cond c (x ∷ []) [] ++ rest) ≤ span_bytes x + sum_by span_bytes rest
placed_bytes true x rest = omega (arith, sum_by-cons span_bytes x rest)
placed_bytes false x rest = omega arith

spans_total : (kind : List ℕ) (ps : List TrafPart) → sum_by span_bytes (spans_of kind ps) ≤ total traf_size ps
spans_total kind [] = omega arith
spans_total kind (traf_part.Head h ∷ ps) = let t = spans_total kind ps in omega (arith, t)
spans_total kind (traf_part.Run r ∷ ps) = let t = spans_total kind ps in omega (arith, t)
spans_total kind (traf_part.Placed k x ∷ ps) =
    let t = spans_total kind ps in
    let one = placed_bytes (bytes_eq k kind) x (spans_of kind ps) in
    omega (arith, t, one)
spans_total kind (traf_part.Other ∷ ps) = let t = spans_total kind ps in omega (arith, t)

traf_bytes : (b : Found) (t : Traf) → traf_at b ≡ Ok t → senc_bytes t ≤ length b.body
unfolding traf_at
traf_bytes b t h =
    let p = then_ok _ (traf_from b.place) t h in
    let q = then_ok (required (fault_at b.place NoTfhd) (first (heads p.0))) _ t p.2 in
    let small = all_within whole header_fault traf_size part_at head_seen (λ seen b p e. traf_whole (traf_box b.kind) seen b p e) false (inside b) p.0 p.1 in
    let few = spans_total (codes "senc") p.0 in
    let took = inside_whole b in
    same_size senc_bytes (record { place = b.place; tfhd = q.0; runs = runs p.0; senc = spans_of (codes "senc") p.0; saiz = spans_of (codes "saiz") p.0; saio = spans_of (codes "saio") p.0; sgpd = spans_of (codes "sgpd") p.0; sbgp = spans_of (codes "sbgp") p.0 }) t _ (omega (arith, small, took, few)) cc

-- ---- a movie fragment

abbrev moof_size : MoofPart → ℕ
moof_size (moof_part.Fragment t) = senc_bytes t
moof_size (moof_part.Pssh x) = span_bytes x
moof_size moof_part.Other = 0

moof_whole : (k : MoofBox) (b : Found) (p : MoofPart) → moof_part_as k b ≡ Ok p → moof_size p ≤ whole b
moof_whole moof.Traf b p h =
    let q = then_ok (traf_at b) _ p h in
    let few = traf_bytes b q.0 q.1 in
    same_size moof_size (moof_part.Fragment q.0) p _ (omega (arith, few)) cc
moof_whole moof.Pssh b p h = same_size moof_size (moof_part.Pssh (span b)) p _ (omega arith) cc
moof_whole moof.Other b p h = same_size moof_size moof_part.Other p _ (omega arith) cc

moof_total : (ps : List MoofPart) → sum_by span_bytes (psshs ps) + sum_by senc_bytes (trafs ps) ≡ total moof_size ps
moof_total [] = refl
moof_total (moof_part.Fragment t ∷ ps) = omega (arith, moof_total ps, sum_by-cons senc_bytes t (trafs ps))
moof_total (moof_part.Pssh x ∷ ps) = omega (arith, moof_total ps, sum_by-cons span_bytes x (psshs ps))
moof_total (moof_part.Other ∷ ps) = omega (arith, moof_total ps)

pub moof_takes : (b : Found) (m : Moof) → moof_at b ≡ Ok m → moof_bytes m ≤ length b.body
unfolding moof_at
moof_takes b m h =
    let p = then_ok _ _ m h in
    let small = all_within whole header_fault moof_size (λ (none : Unit {0}) b. moof_part_at b) (λ none x. tt) (λ none b p e. moof_whole (moof_box b.kind) b p e) tt (inside b) p.0 p.1 in
    let took = inside_whole b in
    same_size moof_bytes (record { place = b.place; trafs = trafs p.0; psshs = psshs p.0 }) m _ (omega (arith, small, took, moof_total p.0)) cc

-- ---- a movie

abbrev moov_size : MoovPart → ℕ
moov_size (moov_part.Track t) = 0
moov_size (moov_part.Defaults trexes) = 0
moov_size (moov_part.Pssh x) = span_bytes x
moov_size moov_part.Other = 0

moov_whole : (k : MoovBox) (tracks : List MovieTrack) (b : Found) (p : MoovPart) → moov_part_as k tracks b ≡ Ok p → moov_size p ≤ whole b
moov_whole moov.Trak tracks b p h =
    let g = not_else (nat_lt (length tracks) MAX_TRACKS) _ _ p h in
    let q = then_ok (trak_at tracks b) _ p g in
    same_size moov_size (moov_part.Track q.0) p _ (omega arith) cc
moov_whole moov.Mvex tracks b p h =
    let q = then_ok (mvex_at b) _ p h in
    same_size moov_size (moov_part.Defaults q.0) p _ (omega arith) cc
moov_whole moov.Pssh tracks b p h = same_size moov_size (moov_part.Pssh (span b)) p _ (omega arith) cc
moov_whole moov.Other tracks b p h = same_size moov_size moov_part.Other p _ (omega arith) cc

moov_total : (ps : List MoovPart) → sum_by span_bytes (moov_psshs ps) ≡ total moov_size ps
moov_total [] = refl
moov_total (moov_part.Track t ∷ ps) = omega (arith, moov_total ps)
moov_total (moov_part.Defaults trexes ∷ ps) = omega (arith, moov_total ps)
moov_total (moov_part.Pssh x ∷ ps) = omega (arith, moov_total ps, sum_by-cons span_bytes x (moov_psshs ps))
moov_total (moov_part.Other ∷ ps) = omega (arith, moov_total ps)

pub moov_takes : (b : Found) (m : Movie) → moov_at b ≡ Ok m → movie_bytes m ≤ length b.body
unfolding moov_at
moov_takes b m h =
    let p = then_ok _ _ m h in
    let small = all_within whole header_fault moov_size moov_part_at with_track (λ tracks b p e. moov_whole (moov_box b.kind) tracks b p e) [] (inside b) p.0 p.1 in
    let took = inside_whole b in
    same_size movie_bytes (record { place = b.place; tracks = map (with_trex (trexes_of p.0)) (tracks_of p.0); psshs = moov_psshs p.0 }) m _ (omega (arith, small, took, moov_total p.0)) cc

-- ---- the answers of the readers

pub movie_takes : (r : Result Movie FragFault) (b : Found) → GivesBox r (moov_at b) → IfOk r (λ m. movie_bytes m ≤ length b.body)
movie_takes (Ok m) b h = moov_takes b m h
movie_takes (Err e) b h = tt

pub fragment_takes : (r : Result Moof FragFault) (b : Found) → GivesBox r (moof_at b) → IfOk r (λ m. moof_bytes m ≤ length b.body)
fragment_takes (Ok m) b h = moof_takes b m h
fragment_takes (Err e) b h = tt
