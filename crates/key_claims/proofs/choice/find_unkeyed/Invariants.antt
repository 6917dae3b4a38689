use Rattle.std.proofs.Common.{ℕ, ◌≡◌, ◌<◌, map, false}
use Rattle.std.specs.Prelude.{slice_index_or}
use Rattle.key_claims.specs.TracksState.{FedTrack}
use Rattle.key_claims.specs.TrackValue.{fed_track}
use Rattle.key_claims.specs.Choice.{is_unkeyed}
use Rattle.key_claims.proofs.choice.find_unkeyed.Given as goal

abbrev pub invariant-loop-at : goal.invariant-loop-at
invariant-loop-at g l = (k : ℕ) (d : FedTrack) → k < l.at → is_unkeyed (g.P.Picks.picks l.sessions) l.claims (slice_index_or (map fed_track l.tracks) k d) ≡ false
