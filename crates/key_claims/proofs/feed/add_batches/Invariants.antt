use Rattle.std.proofs.Common.{◌≡◌, map, deque_items}
use Rattle.key_claims.specs.TrackValue.{fed_track}
use Rattle.key_claims.specs.Changes.{feed_all}
use Rattle.key_claims.specs.Feeds.{AreReadyFor, batch_part}
use Rattle.key_claims.proofs.feed.add_batches.Given as goal

abbrev pub invariant-loop-batch : goal.invariant-loop-batch
invariant-loop-batch l = (map fed_track l.tracks.items ≡ feed_all (map fed_track l.fn.tracks.items) (map batch_part l.yielded)) × AreReadyFor (deque_items l.batch-iterator.rest) l.tracks.items
