use Rattle.std.proofs.Common.{◌≡◌, ◌++◌, map, take, drop}
use Rattle.key_claims.specs.Slots.{ended}
use Rattle.key_claims.proofs.slots.end_slots.Given as goal

abbrev pub invariant-loop-slot : goal.invariant-loop-slot
invariant-loop-slot l = l.slot-items ≡ map (ended l.at) (take l.slot-index l.fn.slots.items) ++ drop l.slot-index l.fn.slots.items
