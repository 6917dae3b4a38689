use Rattle.std.proofs.Common.{ℕ, ◌<◌, map}
use Rattle.std.specs.Prelude.{slice_index_or}
use Rattle.key_claims.specs.TracksState.{FedTrack}
use Rattle.key_claims.specs.TrackValue.{fed_track}
use Rattle.key_claims.specs.Choice.{NoWorkOn}
use Rattle.key_claims.proofs.choice.find_work.Given as goal

abbrev pub invariant-loop-at : goal.invariant-loop-at
invariant-loop-at g l = (k : ℕ) (d : FedTrack) → k < l.at → NoWorkOn (g.P.Picks.picks l.sessions) l.claims (slice_index_or (map fed_track l.tracks) k d)
