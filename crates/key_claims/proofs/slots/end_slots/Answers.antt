use Rattle.std.proofs.Common.{◌<◌, length, get_or, ap}
use Rattle.key_claims.specs.Slots.{ended}
use Rattle.key_claims.proofs.Revokes.{map_more, with_generation}
use Rattle.key_claims.proofs.slots.end_slots.Goals as goal

pub loop-slot-preserved : goal.loop-slot-preserved
loop-slot-preserved c =
    let lt : c.loop-slot.slot-index < length c.args.slots.now.items = rw c.deref_mut-slot-items.ensures.value at c.loop-slot-test.true in
    map_more (ended c.args.at) c.args.slots.now.items c.loop-slot.slot-items c.loop-slot.slot-index c.slot-item.result _ lt c.loop-slot.invariant (ap (λ n. with_generation n (get_or c.loop-slot.slot-items c.loop-slot.slot-index c.slot-item.result)) c.ended_generation-slot.ensures)
