use Rattle.std.proofs.Common.{◌≡◌, take}
use Rattle.key_claims.specs.Feeds.{needed_by}
use Rattle.key_claims.proofs.feed.needed.Given as goal

abbrev pub invariant-loop-batch : goal.invariant-loop-batch
invariant-loop-batch l = l.needed ≡ needed_by l.id (take l.batch-index l.batches)
