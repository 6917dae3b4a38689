use Rattle.std.proofs.Common.{ℕ, ◌≡◌, ◌<◌, map}
use Rattle.std.specs.Prelude.{slice_index_or}
use Rattle.key_claims.specs.TrackValue.{TrackValue, fed_track}
use Rattle.key_claims.specs.Feeds.{IsReadyFor}
use Rattle.key_claims.proofs.feed.reserve_batches.Given as goal

abbrev pub invariant-loop-i : goal.invariant-loop-i
invariant-loop-i l = (map fed_track l.tracks.items ≡ map fed_track l.fn.tracks.items) × ((k : ℕ) (d : TrackValue) → k < l.i → IsReadyFor l.batches (slice_index_or l.tracks.items k d))
