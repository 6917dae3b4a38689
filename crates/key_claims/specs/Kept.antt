-- What the tracks keep.
use Rattle.std.specs.Prelude.{ℕ, ◌≡◌, ◌≤◌, List, [], ◌∷◌, map, IsTrue}
use Rattle.eme_types.specs.Fed.{are_distinct}
use Rattle.eme_types.specs.declared.limits.TheConstants.{MAX_SAMPLES}
use Rattle.cdm_world.specs.In.{In}
use Rattle.key_claims.specs.declared.tracks.Tracks.TheInside.{Inside}
use Rattle.key_claims.specs.TracksState.{ClaimState, FedTrack, TracksState}
use Rattle.key_claims.specs.Fits.{Fits, Apart}
use Rattle.key_claims.specs.TrackValue.{fed_track, all_fed}

-- no place stands twice
abbrev pub Once : List ClaimState → Type 0
Once [] = Unit {0}
Once (c ∷ more) = ((d : ClaimState) → In more d → c.place ≡ d.place → ⊥) × Once more

-- the id of a track
abbrev pub fed_id : FedTrack → ℕ
fed_id t = t.id

-- no more samples are fed than the limit; the tracks have different ids; the places of claims differ, each claim fits its sample, and no two are on one sample
pub record AreSound (s : TracksState) : Type 0 where
  pub few : all_fed s.tracks ≤ MAX_SAMPLES
  pub distinct : IsTrue (are_distinct (map fed_id s.tracks))
  pub once : Once s.claims
  pub fits : (c : ClaimState) → In s.claims c → Fits s.tracks c
  pub apart : Apart s.claims

-- what contracts see of the tracks
abbrev pub state_of : Inside → TracksState
state_of c = record { tracks = map fed_track c.tracks.items; claims = c.claims }

-- what the tracks keep is sound
abbrev pub IsKept : Inside → Type 0
IsKept c = AreSound (state_of c)
