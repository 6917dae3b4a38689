use Rattle.std.proofs.Common.{ℕ, ◌≡◌, ◌<◌, map, None}
use Rattle.std.specs.Prelude.{slice_index_or}
use Rattle.key_claims.specs.TracksState.{FedTrack}
use Rattle.key_claims.specs.TrackValue.{fed_track}
use Rattle.key_claims.specs.Choice.{ready_on}
use Rattle.key_claims.proofs.choice.find_ready.Given as goal

abbrev pub invariant-loop-at : goal.invariant-loop-at
invariant-loop-at l = (k : ℕ) (d : FedTrack) → k < l.at → ready_on l.claims (slice_index_or (map fed_track l.tracks) k d) ≡ None
