-- A movie that was written is read again: its tracks, what holds for their samples, and its initialization data.
use Rattle.std.proofs.Common.{◌≡◌, ℕ, ◌+◌, ◌^◌, ◌<◌, ◌≤◌, Bool, true, false, List, [], ◌∷◌, ◌++◌, length, map, codes, Some, Ok, refl, sym, ap, subst, arith, append_assoc, append-nil, length-append}
use Rattle.std.specs.Prelude.{◌==◌, not, nat_lt}
use Rattle.std.specs.List.{All, flat_map, list_all}
use Rattle.std.proofs.lemmas.Bool.{lt-ltb, and_parts, or_parts, not-true, eqb-false, ne_eqb}
use Rattle.std.proofs.lemmas.List.Elements.{All-head, All-tail}
use Rattle.eme_types.specs.Fed.{is_among, are_distinct}
use Rattle.iso_boxes.specs.Walk.{walk}
use Rattle.iso_boxes.specs.Writing.{boxed}
use Rattle.iso_boxes.specs.Children.{all_knowing}
use Rattle.prot_boxes.proofs.Again.{box_of}
use Rattle.init_data.specs.Pssh.{pssh_body, pssh_box}
use Rattle.frag_boxes.specs.declared.records.Span.{Span}
use Rattle.frag_boxes.specs.declared.records.MovieTrack.{MovieTrack}
use Rattle.frag_boxes.specs.declared.records.Movie.{Movie}
use Rattle.frag_boxes.specs.declared.records.TrackTrex.{TrackTrex}
use Rattle.frag_boxes.specs.declared.moov.MoovPart.{MoovPart}
use Rattle.frag_boxes.specs.declared.moov.MoovPart.TheVariants as part
use Rattle.frag_boxes.specs.Moof.{header_fault}
use Rattle.frag_boxes.specs.Table.{somes}
use Rattle.frag_boxes.specs.Moov.{among, mvex_part_at, mvex_at, with_trex, moov_box, moov_part_at, with_track, tracks_of, moov_psshs, trexes_of, moov_at}
use Rattle.seal_media.specs.declared.plan.SealPlan.{SealPlan}
use Rattle.seal_media.specs.Sealed.{pssh_of}
use Rattle.seal_media.specs.Layout.{trak_body, trak_box, trex_body, trex_box, moov_body}
use Rattle.seal_media.proofs.BackStands.{Stands, stands_left, stands_body, stands_next}
use Rattle.seal_media.proofs.BackWalk.{reads_end, reads_on, reads_last}
use Rattle.seal_media.proofs.BackFields.{trex_read, trex_again}
use Rattle.seal_media.proofs.BackTable.{track_read, trak_again}

-- ---- mvex

-- the trex boxes of these tracks, the first of which has this place
abbrev pub trexes_from : ℕ → List ℕ → List TrackTrex
trexes_from place [] = []
trexes_from place (id ∷ ids) = trex_read place id ∷ trexes_from (place + (8 + length (trex_body id))) ids

trexes_read : (file : List ℕ) (place : ℕ) (ids : List ℕ) → length file < 2 ^ 32 → All (λ id. id < 2 ^ 32) ids → Stands file place (flat_map trex_box ids)
    → all_knowing header_fault (λ (none : Unit {0}) b. mvex_part_at b) (λ none x. tt) tt (walk (flat_map trex_box ids) place false) ≡ Ok (map Some (trexes_from place ids))
unfolding mvex_part_at
trexes_read file place [] small fits s = reads_end header_fault (λ (none : Unit {0}) b. mvex_part_at b) (λ none x. tt) tt place false
trexes_read file place (id ∷ ids) small fits s =
    reads_on header_fault (λ (none : Unit {0}) b. mvex_part_at b) (λ none x. tt) tt file (codes "trex") (trex_body id) (flat_map trex_box ids) place false
    (Some (trex_read place id)) (map Some (trexes_from (place + (8 + length (trex_body id))) ids)) refl small s
    (rw (trex_again place id (All-head (λ n. n < 2 ^ 32) id ids fits)) refl)
    (trexes_read file (place + (8 + length (trex_body id))) ids small (All-tail (λ n. n < 2 ^ 32) id ids fits) (stands_next file place (codes "trex") (trex_body id) (flat_map trex_box ids) refl s))

all_there : {A : Type 0} (xs : List A) → somes (map Some xs) ≡ xs
all_there [] = refl
all_there {A = A} (x ∷ xs) = ap (λ (ys : List A). x ∷ ys) (all_there xs)

mvex_again : (file : List ℕ) (place : ℕ) (ids : List ℕ) → length file < 2 ^ 32 → All (λ id. id < 2 ^ 32) ids → Stands file place (boxed (codes "mvex") (flat_map trex_box ids))
    → mvex_at (box_of (codes "mvex") (flat_map trex_box ids) place) ≡ Ok (trexes_from (place + 8) ids)
unfolding mvex_at
mvex_again file place ids small fits s =
    let body = stands_body file place (codes "mvex") (flat_map trex_box ids) refl s in
    rw (trexes_read file (place + 8) ids small fits body, all_there (trexes_from (place + 8) ids)) refl

-- ---- the tracks

-- the tracks, the first of which has this place
abbrev pub tracks_from : SealPlan → ℕ → List ℕ → List MovieTrack
tracks_from plan place [] = []
tracks_from plan place (id ∷ ids) = track_read plan place id ∷ tracks_from plan (place + (8 + length (trak_body plan id))) ids

-- the place behind them
abbrev pub behind_tracks : SealPlan → ℕ → List ℕ → ℕ
behind_tracks plan place [] = place
behind_tracks plan place (id ∷ ids) = behind_tracks plan (place + (8 + length (trak_body plan id))) ids

-- none of these ids is among those tracks
abbrev are_new : List MovieTrack → List ℕ → Bool
are_new known ids = list_all (λ id. not (among id known)) ids

among_end : (id : ℕ) (known : List MovieTrack) (t : MovieTrack) → among id known ≡ false → (t.id == id) ≡ false → among id (known ++ t ∷ []) ≡ false
among_end id [] t e f = rw f refl
among_end id (k ∷ known) t e f =
    let both = or_parts (k.id == id) (among id known) e in
    rw (both.0, among_end id known t both.1 f) refl

still_new : (known : List MovieTrack) (t : MovieTrack) (ids : List ℕ) → are_new known ids ≡ true → is_among ids t.id ≡ false → are_new (known ++ t ∷ []) ids ≡ true
still_new known t [] e f = refl
still_new known t (id ∷ ids) e f =
    let both = and_parts (not (among id known)) (are_new known ids) e in
    let other = or_parts (id == t.id) (is_among ids t.id) f in
    let apart : (t.id == id) ≡ false = ne_eqb t.id id (λ h. eqb-false id t.id other.0 (sym h)) in
    rw (among_end id known t (not-true (among id known) both.0) apart, still_new known t ids both.1 other.1) refl

-- the tracks are read in order, and then what stands behind them
tracks_again : (plan : SealPlan) (file : List ℕ) (place : ℕ) (known : List MovieTrack) (ids after : List ℕ) (rest : List MoovPart) → length file < 2 ^ 32
    → All (λ id. id < 2 ^ 32) ids → are_new known ids ≡ true → are_distinct ids ≡ true → length known + length ids ≤ 8 → Stands file place (flat_map (trak_box plan) ids ++ after)
    → ((learnt : List MovieTrack) → Stands file (behind_tracks plan place ids) after → all_knowing header_fault moov_part_at with_track learnt (walk after (behind_tracks plan place ids) false) ≡ Ok rest)
    → all_knowing header_fault moov_part_at with_track known (walk (flat_map (trak_box plan) ids ++ after) place false) ≡ Ok (map part.Track (tracks_from plan place ids) ++ rest)
unfolding moov_box
tracks_again plan file place known [] after rest small fits new distinct few s more = more known s
tracks_again plan file place known (id ∷ ids) after rest small fits new distinct few s more =
    let flat : (trak_box plan id ++ flat_map (trak_box plan) ids) ++ after ≡ trak_box plan id ++ (flat_map (trak_box plan) ids ++ after) = append_assoc (trak_box plan id) (flat_map (trak_box plan) ids) after in
    let P : List ℕ → Type 0 = λ bytes. Stands file place bytes in
    let whole : Stands file place (trak_box plan id ++ (flat_map (trak_box plan) ids ++ after)) = subst P flat s in
    let first = stands_left file place (trak_box plan id) (flat_map (trak_box plan) ids ++ after) whole in
    let others = stands_next file place (codes "trak") (trak_body plan id) (flat_map (trak_box plan) ids ++ after) refl whole in
    let is_new = and_parts (not (among id known)) (are_new known ids) new in
    let apart = and_parts (not (is_among ids id)) (are_distinct ids) distinct in
    let room : nat_lt (length known) 8 ≡ true = lt-ltb (length known) 8 (omega arith) in
    let longer : length (known ++ track_read plan place id ∷ []) + length ids ≤ 8 = omega (arith, length-append known (track_read plan place id ∷ [])) in
    rw flat (reads_on header_fault moov_part_at with_track known file (codes "trak") (trak_body plan id) (flat_map (trak_box plan) ids ++ after) place false
    (part.Track (track_read plan place id)) (map part.Track (tracks_from plan (place + (8 + length (trak_body plan id))) ids) ++ rest) refl small whole
    (rw (room, trak_again plan file place id known small (All-head (λ n. n < 2 ^ 32) id ids fits) (not-true (among id known) is_new.0) first) refl)
    (tracks_again plan file (place + (8 + length (trak_body plan id))) (known ++ track_read plan place id ∷ []) ids after rest small (All-tail (λ n. n < 2 ^ 32) id ids fits)
    (still_new known (track_read plan place id) ids is_new.1 (not-true (is_among ids id) apart.0)) apart.1 longer others more))

-- ---- the movie

-- where the pssh of a movie stands, by the place of its mvex
abbrev pub pssh_place : ℕ → List ℕ → ℕ
pssh_place place ids = place + (8 + length (flat_map trex_box ids))

abbrev pub pssh_span : SealPlan → ℕ → Span
pssh_span plan place = record { place = place; body_place = place + 8; len = length (pssh_body (pssh_of plan)) }

-- the place of the mvex of a movie
abbrev pub mvex_place : SealPlan → ℕ → List ℕ → ℕ
mvex_place plan place ids = behind_tracks plan (place + 8) ids

-- the movie whose moov has this place
abbrev pub movie_read : SealPlan → ℕ → List ℕ → Movie
movie_read plan place ids = record {
  place = place;
  tracks = map (with_trex (trexes_from (mvex_place plan place ids + 8) ids)) (tracks_from plan (place + 8) ids);
  psshs = pssh_span plan (pssh_place (mvex_place plan place ids) ids) ∷ [];
}

-- behind the tracks
abbrev rest_of : SealPlan → ℕ → List ℕ → List MoovPart
rest_of plan place ids = part.Defaults (trexes_from (place + 8) ids) ∷ part.Pssh (pssh_span plan (pssh_place place ids)) ∷ []

rest_again : (plan : SealPlan) (file : List ℕ) (place : ℕ) (ids : List ℕ) (known : List MovieTrack) → length file < 2 ^ 32 → All (λ id. id < 2 ^ 32) ids
    → Stands file place (boxed (codes "mvex") (flat_map trex_box ids) ++ pssh_box (pssh_of plan))
    → all_knowing header_fault moov_part_at with_track known (walk (boxed (codes "mvex") (flat_map trex_box ids) ++ pssh_box (pssh_of plan)) place false) ≡ Ok (rest_of plan place ids)
unfolding moov_box
rest_again plan file place ids known small fits s =
    let mvex = stands_left file place (boxed (codes "mvex") (flat_map trex_box ids)) (pssh_box (pssh_of plan)) s in
    let pssh = stands_next file place (codes "mvex") (flat_map trex_box ids) (pssh_box (pssh_of plan)) refl s in
    reads_on header_fault moov_part_at with_track known file (codes "mvex") (flat_map trex_box ids) (pssh_box (pssh_of plan)) place false
    (part.Defaults (trexes_from (place + 8) ids)) (part.Pssh (pssh_span plan (pssh_place place ids)) ∷ []) refl small s
    (rw (mvex_again file place ids small fits mvex) refl)
    (reads_last header_fault moov_part_at with_track known file (codes "pssh") (pssh_body (pssh_of plan)) (pssh_place place ids) false (part.Pssh (pssh_span plan (pssh_place place ids))) refl small pssh refl)

only_tracks : (ts : List MovieTrack) (rest : List MoovPart) → tracks_of (map part.Track ts ++ rest) ≡ ts ++ tracks_of rest
only_tracks [] rest = refl
only_tracks (t ∷ ts) rest = ap (λ (us : List MovieTrack). t ∷ us) (only_tracks ts rest)

no_trexes : (ts : List MovieTrack) (rest : List MoovPart) → trexes_of (map part.Track ts ++ rest) ≡ trexes_of rest
no_trexes [] rest = refl
no_trexes (t ∷ ts) rest = no_trexes ts rest

no_psshs : (ts : List MovieTrack) (rest : List MoovPart) → moov_psshs (map part.Track ts ++ rest) ≡ moov_psshs rest
no_psshs [] rest = refl
no_psshs (t ∷ ts) rest = no_psshs ts rest

nothing_known : (ids : List ℕ) → are_new [] ids ≡ true
nothing_known [] = refl
nothing_known (id ∷ ids) = nothing_known ids

pub moov_again : (plan : SealPlan) (file : List ℕ) (place : ℕ) (ids : List ℕ) → length file < 2 ^ 32 → All (λ id. id < 2 ^ 32) ids → are_distinct ids ≡ true → length ids ≤ 8
    → Stands file place (boxed (codes "moov") (moov_body plan ids)) → moov_at (box_of (codes "moov") (moov_body plan ids) place) ≡ Ok (movie_read plan place ids)
unfolding moov_at moov_body
moov_again plan file place ids small fits distinct few s =
    let body = stands_body file place (codes "moov") (flat_map (trak_box plan) ids ++ (boxed (codes "mvex") (flat_map trex_box ids) ++ pssh_box (pssh_of plan))) refl s in
    rw (
      tracks_again plan file (place + 8) [] ids (boxed (codes "mvex") (flat_map trex_box ids) ++ pssh_box (pssh_of plan)) (rest_of plan (mvex_place plan place ids) ids) small fits (nothing_known ids) distinct (omega arith) body
          (λ learnt t. rest_again plan file (mvex_place plan place ids) ids learnt small fits t),
      only_tracks (tracks_from plan (place + 8) ids) (rest_of plan (mvex_place plan place ids) ids),
      no_trexes (tracks_from plan (place + 8) ids) (rest_of plan (mvex_place plan place ids) ids),
      no_psshs (tracks_from plan (place + 8) ids) (rest_of plan (mvex_place plan place ids) ids),
      append-nil (trexes_from (mvex_place plan place ids + 8) ids),
      append-nil (tracks_from plan (place + 8) ids),
    ) refl
