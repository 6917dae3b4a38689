use Rattle.std.proofs.Common.{◌≡◌, ◌∷◌, deque_items, map, rules, refl}
use Rattle.key_claims.specs.TrackValue.{fed_track}
use Rattle.key_claims.proofs.Lists.{ready_first, ready_on, fed_on}
use Rattle.key_claims.proofs.feed.add_batches.Goals as goal

pub add_batch-requires : goal.add_batch-requires
add_batch-requires c =
    let rest : deque_items c.loop-batch.batch-iterator.rest ≡ c.in-Some.batch ∷ deque_items c.next.new.self.rest = search rules in
    λ k d lt. ready_first c.in-Some.batch (deque_items c.next.new.self.rest) _ (rw rest at c.loop-batch.invariant.1 k d lt)

pub loop-batch-preserved : goal.loop-batch-preserved
loop-batch-preserved c =
    let rest : deque_items c.loop-batch.batch-iterator.rest ≡ c.in-Some.batch ∷ deque_items c.next.new.self.rest = search rules in
    let i = c.loop-batch.invariant in (
      fed_on (map fed_track c.args.tracks.now.items) (map fed_track c.loop-batch.tracks.items) (map fed_track c.add_batch.new.tracks.items) c.loop-batch.yielded _ c.in-Some.batch refl i.0 c.add_batch.ensures.fed,
      ready_on c.in-Some.batch (deque_items c.next.new.self.rest) c.loop-batch.tracks.items c.add_batch.new.tracks.items c.add_batch.ensures.took (λ k d lt. rw rest at i.1 k d lt),
    )
