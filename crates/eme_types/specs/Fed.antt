-- Media that may be fed: its tracks, its parts and its limits.
use Rattle.std.specs.Prelude.{ℕ, ◌≤◌, ◌==◌, Bool, true, not, ◌&&◌, List, [], ◌∷◌, length, map, IsTrue}
use Rattle.std.specs.List.{sum_by, list_all, list_any}
use Rattle.eme_types.specs.declared.sample.EncSample.{EncSample}
use Rattle.eme_types.specs.declared.media.TrackPart.{TrackPart}
use Rattle.eme_types.specs.declared.media.Fragment.{Fragment}
use Rattle.eme_types.specs.declared.media.Media.{Media}
use Rattle.eme_types.specs.declared.limits.TheConstants.{MAX_TRACKS, MAX_SAMPLES, MAX_SAMPLE_BYTES}
use Rattle.eme_types.specs.WellFormed.{is_well_formed}

-- the number stands in the list
abbrev pub is_among : List ℕ → ℕ → Bool
is_among ids id = list_any (λ x. x == id) ids

-- no number stands twice
abbrev pub are_distinct : List ℕ → Bool
are_distinct [] = true
are_distinct (id ∷ more) = not (is_among more id) && are_distinct more

-- the track of a part
abbrev pub part_track : TrackPart → ℕ
part_track p = p.track

-- how many samples a part has
abbrev pub part_samples : TrackPart → ℕ
part_samples p = length p.samples

-- how many bytes a sample has
abbrev pub sample_bytes : EncSample → ℕ
sample_bytes s = length s.bytes

-- how many bytes the samples of a part have
abbrev pub part_bytes : TrackPart → ℕ
part_bytes p = sum_by sample_bytes p.samples

-- how many samples a fragment has
abbrev pub fragment_samples : Fragment → ℕ
fragment_samples f = sum_by part_samples f.parts

-- how many bytes the samples of a fragment have
abbrev pub fragment_bytes : Fragment → ℕ
fragment_bytes f = sum_by part_bytes f.parts

-- every sample of the fragment is well formed
abbrev pub are_well_formed : Fragment → Bool
are_well_formed f = list_all (λ p. list_all is_well_formed p.samples) f.parts

-- every part of the fragment is of one of these tracks
abbrev pub are_known : List ℕ → Fragment → Bool
are_known ids f = list_all (λ p. is_among ids p.track) f.parts

-- the part has a sample
abbrev pub has_samples : TrackPart → Bool
has_samples p = not (length p.samples == 0)

-- each track has at most one part, and no part is empty
abbrev pub is_joined : Fragment → Bool
is_joined f = are_distinct (map part_track f.parts) && list_all has_samples f.parts

-- at most 8 distinct tracks, parts of them, well-formed samples, and totals inside the limits
pub record IsFed (m : Media) : Type 0 where
  pub few : length m.tracks ≤ MAX_TRACKS
  pub distinct : IsTrue (are_distinct m.tracks)
  pub known : IsTrue (list_all (are_known m.tracks) m.fragments)
  pub joined : IsTrue (list_all is_joined m.fragments)
  pub formed : IsTrue (list_all are_well_formed m.fragments)
  pub samples : sum_by fragment_samples m.fragments ≤ MAX_SAMPLES
  pub bytes : sum_by fragment_bytes m.fragments ≤ MAX_SAMPLE_BYTES
