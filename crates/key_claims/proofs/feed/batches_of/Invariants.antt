use Rattle.std.proofs.Common.{◌≡◌, map, take}
use Rattle.key_claims.specs.Feeds.{batch_part}
use Rattle.key_claims.proofs.feed.batches_of.Given as goal

abbrev pub invariant-loop-part : goal.invariant-loop-part
invariant-loop-part l = map batch_part l.batches.items ≡ take l.part-index l.parts
