-- A movie that was read has few tracks, and no two of them have one id.
use Rattle.std.proofs.Common.{◌≡◌, ◌⊎◌, inl, inr, ℕ, ◌<◌, ◌≤◌, Bool, true, false, cond, List, [], ◌∷◌, ◌++◌, length, map, Option, Some, None, Result, Ok, Err, refl, sym, ap, subst, ◌∙◌, append_assoc, arith, length-append, lit≤}
use Rattle.std.specs.Prelude.{IfOk, nat_lt, ◌==◌, ◌||◌}
use Rattle.std.proofs.lemmas.Bool.{ltb-true}
use Rattle.std.proofs.lemmas.List.{append-nil, length-map}
use Rattle.eme_types.specs.declared.limits.TheConstants.{MAX_TRACKS}
use Rattle.eme_types.specs.Fed.{is_among, are_distinct}
use Rattle.iso_boxes.specs.Walk.{Found, inside}
use Rattle.iso_boxes.specs.Children.{◌>>=◌, each_knowing, ended, all_knowing, required, first, placed}
use Rattle.frag_boxes.specs.declared.fault.FragKind.TheVariants.{NoTrackId, TooManyTracks}
use Rattle.frag_boxes.specs.declared.fault.FragFault.{FragFault}
use Rattle.frag_boxes.specs.declared.records.MovieTrack.{MovieTrack}
use Rattle.frag_boxes.specs.declared.records.Movie.{Movie}
use Rattle.frag_boxes.specs.declared.records.TrackTrex.{TrackTrex}
use Rattle.frag_boxes.specs.declared.moov.TrakBox.{TrakBox}
use Rattle.frag_boxes.specs.declared.moov.TrakBox.TheVariants as trak
use Rattle.frag_boxes.specs.declared.moov.TrakPart.{TrakPart}
use Rattle.frag_boxes.specs.declared.moov.TrakPart.TheVariants as trak_part
use Rattle.frag_boxes.specs.declared.moov.MoovBox.{MoovBox}
use Rattle.frag_boxes.specs.declared.moov.MoovBox.TheVariants as moov
use Rattle.frag_boxes.specs.declared.moov.MoovPart.{MoovPart}
use Rattle.frag_boxes.specs.declared.moov.MoovPart.TheVariants as moov_part
use Rattle.frag_boxes.specs.Fields.{tkhd_fields}
use Rattle.frag_boxes.specs.Moof.{GivesBox, fault_at, header_fault, span}
use Rattle.frag_boxes.specs.Moov.{among, new_id, tkhd_at, Seen, trak_box, trak_part_as, trak_part_at, saw, ids, tables, track, track_from, trak_at, mvex_at, with_trex, moov_box, moov_part_as, moov_part_at, with_track, tracks_of, trexes_of, moov_psshs, moov_at}
use Rattle.frag_boxes.specs.Table.{or_none, mdia_at}
use Rattle.frag_boxes.specs.Tracks.{track_id, HasTracks}
use Rattle.frag_boxes.proofs.Taking.{then_ok}
use Rattle.frag_boxes.proofs.Distinct.{distinct_end}

-- ---- the id of a track

new_at : (c : Bool) (e : FragFault) (x id : ℕ) → cond c (Err e) (Ok x) ≡ Ok id → (c ≡ false) × (x ≡ id)
new_at true e x id h = absurd cc
new_at false e x id h = (refl, cc)

tkhd_new : (tracks : List MovieTrack) (b : Found) (id : ℕ) → tkhd_at tracks b ≡ Ok id → among id tracks ≡ false
unfolding tkhd_at
tkhd_new tracks b id h =
    let p = then_ok (placed (fault_at b.place) (tkhd_fields b.body)) (new_id tracks b) id h in
    let q = new_at (among p.0 tracks) _ p.0 id p.2 in
    subst (λ (x : ℕ). among x tracks ≡ false) q.1 q.0

once_new : (c : Bool) (tracks : List MovieTrack) (b : Found) (id : ℕ) → cond c (Ok trak_part.Other) (tkhd_at tracks b >>= λ x. Ok (trak_part.Id x)) ≡ Ok (trak_part.Id id) → among id tracks ≡ false
once_new true tracks b id h = absurd cc
once_new false tracks b id h =
    let p = then_ok (tkhd_at tracks b) (λ x. Ok (trak_part.Id x)) (trak_part.Id id) h in
    tkhd_new tracks b id (p.1 ∙ cc)

no_table : (c : Bool) (b : Found) (id : ℕ) → cond c (Ok trak_part.Other) (mdia_at b >>= λ table. Ok (trak_part.Samples table)) ≡ Ok (trak_part.Id id) → ⊥
no_table true b id h = cc
no_table false b id h =
    let p = then_ok (mdia_at b) (λ table. Ok (trak_part.Samples table)) (trak_part.Id id) h in
    let e : trak_part.Samples p.0 ≡ trak_part.Id id = cc in
    cc

part_new : (k : TrakBox) (tracks : List MovieTrack) (seen : Seen) (b : Found) (id : ℕ) → trak_part_as k tracks seen b ≡ Ok (trak_part.Id id) → among id tracks ≡ false
part_new trak.Tkhd tracks seen b id h = once_new seen.tkhd tracks b id h
part_new trak.Mdia tracks seen b id h = absurd (no_table seen.mdia b id h)
part_new trak.Other tracks seen b id h = absurd cc

first_of_part : (p : TrakPart) (ps : List TrakPart) (id : ℕ) → first (ids (p ∷ ps)) ≡ Some id → (p ≡ trak_part.Id id) ⊎ (first (ids ps) ≡ Some id)
first_of_part (trak_part.Id x) ps id h = inl cc
first_of_part (trak_part.Samples table) ps id h = inr h
first_of_part trak_part.Other ps id h = inr h

first_new : (tracks : List MovieTrack) (seen : Seen) (bs : List Found) (ps : List TrakPart) (id : ℕ) → each_knowing (trak_part_at tracks) saw seen bs ≡ Ok ps → first (ids ps) ≡ Some id → among id tracks ≡ false
unfolding each_knowing
first_new tracks seen [] ps id h e =
    let none : [] ≡ ps = cc in
    let no' : None ≡ Some id = ap (λ (xs : List TrakPart). first (ids xs)) none ∙ e in
    absurd cc
first_new tracks seen (b ∷ bs) ps id h e =
    let p = then_ok (trak_part_at tracks seen b) _ ps h in
    let q = then_ok (each_knowing (trak_part_at tracks) saw (saw seen p.0) bs) _ ps p.2 in
    let is : p.0 ∷ q.0 ≡ ps = cc in
    elim (first_of_part p.0 q.0 id (ap (λ (xs : List TrakPart). first (ids xs)) is ∙ e)) [
      | inl here ↦ part_new (trak_box b.kind) tracks seen b id (p.1 ∙ ap (λ (x : TrakPart). Ok x) here)
      | inr later ↦ first_new tracks (saw seen p.0) bs q.0 id q.1 later
    ]

required_is : {A : Type 0} (e : FragFault) (o : Option A) (x : A) → required e o ≡ Ok x → o ≡ Some x
required_is e None x h = absurd cc
required_is e (Some y) x h = cc

trak_new : (tracks : List MovieTrack) (b : Found) (t : MovieTrack) → trak_at tracks b ≡ Ok t → among t.id tracks ≡ false
unfolding trak_at all_knowing
trak_new tracks b t h =
    let start : Seen = record { tkhd = false; mdia = false } in
    let p = then_ok (all_knowing header_fault (trak_part_at tracks) saw start (inside b)) (track_from b.place) t h in
    let q = then_ok (each_knowing (trak_part_at tracks) saw start (inside b).boxes) _ p.0 p.1 in
    let r = then_ok (ended header_fault (inside b).fault) (λ end. Ok q.0) p.0 q.2 in
    let same : q.0 ≡ p.0 = cc in
    let f = then_ok (required (fault_at b.place NoTrackId) (first (ids p.0))) (λ id. Ok (track b.place id (or_none (first (tables p.0))))) t p.2 in
    let is : track b.place f.0 (or_none (first (tables p.0))) ≡ t = cc in
    let id : f.0 ≡ t.id = ap track_id is in
    let head : first (ids q.0) ≡ Some f.0 = ap (λ (xs : List TrakPart). first (ids xs)) same ∙ required_is _ (first (ids p.0)) f.0 f.1 in
    subst (λ (x : ℕ). among x tracks ≡ false) id (first_new tracks start (inside b).boxes q.0 f.0 q.1 head)

-- ---- the tracks of a movie

record Good (tracks : List MovieTrack) : Type 0 where
  few : length tracks ≤ MAX_TRACKS
  distinct : are_distinct (map track_id tracks) ≡ true

among_ids : (id : ℕ) (tracks : List MovieTrack) → among id tracks ≡ is_among (map track_id tracks) id
among_ids id [] = refl
among_ids id (t ∷ tracks) = ap (λ (c : Bool). (t.id == id) || c) (among_ids id tracks)

map_end : (tracks : List MovieTrack) (t : MovieTrack) → map track_id (tracks ++ t ∷ []) ≡ map track_id tracks ++ t.id ∷ []
map_end [] t = refl
map_end (u ∷ tracks) t = ap (λ (xs : List ℕ). u.id ∷ xs) (map_end tracks t)

more_good : (tracks : List MovieTrack) (t : MovieTrack) → length tracks < MAX_TRACKS → among t.id tracks ≡ false → Good tracks → Good (tracks ++ t ∷ [])
more_good tracks t few new g = record {
  few = omega (arith, few, length-append tracks (t ∷ []));
  distinct = subst (λ (xs : List ℕ). are_distinct xs ≡ true) (sym (map_end tracks t)) (distinct_end (map track_id tracks) t.id g.distinct (sym (among_ids t.id tracks) ∙ new));
}

trak_good : (c : Bool) (tracks : List MovieTrack) (b : Found) (x : MoovPart) → (c ≡ true → length tracks < MAX_TRACKS)
    → cond c (trak_at tracks b >>= λ t. Ok (moov_part.Track t)) (Err (fault_at b.place TooManyTracks)) ≡ Ok x → Good tracks → Good (with_track tracks x)
trak_good true tracks b x few h g =
    let p = then_ok (trak_at tracks b) (λ t. Ok (moov_part.Track t)) x h in
    let is : moov_part.Track p.0 ≡ x = cc in
    subst (λ (y : MoovPart). Good (with_track tracks y)) is (more_good tracks p.0 (few refl) (trak_new tracks b p.0 p.1) g)
trak_good false tracks b x few h g = absurd cc

part_good : (k : MoovBox) (tracks : List MovieTrack) (b : Found) (x : MoovPart) → moov_part_as k tracks b ≡ Ok x → Good tracks → Good (with_track tracks x)
part_good moov.Trak tracks b x h g = trak_good (nat_lt (length tracks) MAX_TRACKS) tracks b x (ltb-true (length tracks) MAX_TRACKS) h g
part_good moov.Mvex tracks b x h g =
    let p = then_ok (mvex_at b) (λ trexes. Ok (moov_part.Defaults trexes)) x h in
    let is : moov_part.Defaults p.0 ≡ x = cc in
    subst (λ (y : MoovPart). Good (with_track tracks y)) is g
part_good moov.Pssh tracks b x h g = let is : moov_part.Pssh (span b) ≡ x = cc in subst (λ (y : MoovPart). Good (with_track tracks y)) is g
part_good moov.Other tracks b x h g = let is : moov_part.Other ≡ x = cc in subst (λ (y : MoovPart). Good (with_track tracks y)) is g

with_more : (tracks : List MovieTrack) (p : MoovPart) (ps : List MoovPart) → with_track tracks p ++ tracks_of ps ≡ tracks ++ tracks_of (p ∷ ps)
with_more tracks (moov_part.Track t) ps = append_assoc tracks (t ∷ []) (tracks_of ps)
with_more tracks (moov_part.Defaults trexes) ps = refl
with_more tracks (moov_part.Pssh x) ps = refl
with_more tracks moov_part.Other ps = refl

all_good : (tracks : List MovieTrack) (bs : List Found) (ps : List MoovPart) → each_knowing moov_part_at with_track tracks bs ≡ Ok ps → Good tracks → Good (tracks ++ tracks_of ps)
unfolding each_knowing
all_good tracks [] ps h g =
    let is : [] ≡ ps = cc in
    subst (λ (xs : List MoovPart). Good (tracks ++ tracks_of xs)) is (subst Good (sym (append-nil tracks)) g)
all_good tracks (b ∷ bs) ps h g =
    let p = then_ok (moov_part_at tracks b) _ ps h in
    let q = then_ok (each_knowing moov_part_at with_track (with_track tracks p.0) bs) _ ps p.2 in
    let is : p.0 ∷ q.0 ≡ ps = cc in
    let more = all_good (with_track tracks p.0) bs q.0 q.1 (part_good (moov_box b.kind) tracks b p.0 p.1 g) in
    subst (λ (xs : List MoovPart). Good (tracks ++ tracks_of xs)) is (subst Good (with_more tracks p.0 q.0) more)

same_ids : (trexes : List TrackTrex) (tracks : List MovieTrack) → map track_id (map (with_trex trexes) tracks) ≡ map track_id tracks
same_ids trexes [] = refl
same_ids trexes (t ∷ tracks) = ap (λ (xs : List ℕ). t.id ∷ xs) (same_ids trexes tracks)

has_tracks : (b : Found) (m : Movie) → moov_at b ≡ Ok m → HasTracks m
unfolding moov_at all_knowing
has_tracks b m h =
    let p = then_ok (all_knowing header_fault moov_part_at with_track [] (inside b)) _ m h in
    let q = then_ok (each_knowing moov_part_at with_track [] (inside b).boxes) _ p.0 p.1 in
    let r = then_ok (ended header_fault (inside b).fault) (λ end. Ok q.0) p.0 q.2 in
    let same : q.0 ≡ p.0 = cc in
    let g = all_good [] (inside b).boxes q.0 q.1 (record { few = lit≤ tt; distinct = refl }) in
    let whole = subst (λ (xs : List MoovPart). Good (tracks_of xs)) same g in
    let is : record { place = b.place; tracks = map (with_trex (trexes_of p.0)) (tracks_of p.0); psshs = moov_psshs p.0 } ≡ m = cc in
    let same_tracks = same_ids (trexes_of p.0) (tracks_of p.0) in
    subst HasTracks is (record {
      few = omega (arith, whole.few, length-map (tracks_of p.0) (with_trex (trexes_of p.0)));
      distinct = rw same_tracks whole.distinct;
    })

-- ---- the answer of the reader

pub tracks_in_movie : (r : Result Movie FragFault) (b : Found) → GivesBox r (moov_at b) → IfOk r (λ movie. HasTracks movie)
tracks_in_movie (Ok m) b h = has_tracks b m h
tracks_in_movie (Err e) b h = tt
