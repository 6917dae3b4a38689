-- What was read of a movie says the same as its boxes.
use Rattle.std.proofs.Common.{◌≡◌, ℕ, List, [], ◌∷◌, map, Result, refl, ap}
use Rattle.frag_boxes.specs.declared.records.MovieTrack.{MovieTrack}
use Rattle.frag_boxes.specs.declared.records.Movie.{Movie}
use Rattle.frag_boxes.specs.Tracks.{track_id}
use Rattle.sample_aux.specs.declared.fault.AuxFault.{AuxFault}
use Rattle.sample_aux.specs.declared.protection.TrackProtection.{TrackProtection}
use Rattle.sample_aux.specs.InOrder.{each_passes}
use Rattle.sample_aux.specs.Checked.{entry_protection, entry_passes, track_passes, movie_passes, track_protection, movie_protection, part_passes, protection_passes}

passes_of : {A B : Type 0} (p : B → Result (Unit {0}) AuxFault) (q : A → Result (Unit {0}) AuxFault) (g : A → B) → ((x : A) → p (g x) ≡ q x) → (xs : List A) → each_passes p (map g xs) ≡ each_passes q xs
unfolding each_passes
passes_of p q g same [] = refl
passes_of p q g same (x ∷ xs) = rw (same x, passes_of p q g same xs) refl

track_same : (file : List ℕ) (t : MovieTrack) → protection_passes (track_protection file t) ≡ track_passes file t
unfolding protection_passes track_passes
track_same file t =
    let entries = passes_of part_passes (λ e. entry_passes file e) (λ e. entry_protection file e) (λ e. refl) t.entries in
    rw entries refl

pub movie_same : (file : List ℕ) (movie : Movie) → each_passes protection_passes (movie_protection file movie).tracks ≡ movie_passes file movie
unfolding movie_passes
movie_same file movie = passes_of protection_passes (λ t. track_passes file t) (λ t. track_protection file t) (track_same file) movie.tracks

-- the ids are those of the tracks
pub ids_same : (file : List ℕ) (ts : List MovieTrack) → map (λ (t : TrackProtection). t.id) (map (λ t. track_protection file t) ts) ≡ map track_id ts
ids_same file [] = refl
ids_same file (t ∷ ts) = ap (λ (ids : List ℕ). t.id ∷ ids) (ids_same file ts)
