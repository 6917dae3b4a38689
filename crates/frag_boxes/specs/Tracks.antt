-- The tracks of a movie, trak (ISO/IEC 14496-12 section 8.3.1), by their ids (section 8.3.2).
use Rattle.std.specs.Prelude.{ℕ, ◌≤◌, List, length, map, IsTrue}
use Rattle.eme_types.specs.declared.limits.TheConstants.{MAX_TRACKS}
use Rattle.eme_types.specs.Fed.{are_distinct}
use Rattle.frag_boxes.specs.declared.records.MovieTrack.{MovieTrack}
use Rattle.frag_boxes.specs.declared.records.Movie.{Movie}

-- the id of a track
abbrev pub track_id : MovieTrack → ℕ
track_id t = t.id

-- in file order
abbrev pub track_ids : Movie → List ℕ
track_ids movie = map track_id movie.tracks

-- no more tracks than the limit, no two of one id
pub record HasTracks (movie : Movie) : Type 0 where
  pub few : length movie.tracks ≤ MAX_TRACKS
  pub distinct : IsTrue (are_distinct (track_ids movie))
