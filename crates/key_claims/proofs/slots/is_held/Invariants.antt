use Rattle.std.proofs.Common.{◌≡◌, drop}
use Rattle.key_claims.specs.Holds.{is_held}
use Rattle.key_claims.proofs.slots.is_held.Given as goal

-- what is left answers for all
abbrev pub invariant-loop-slot : goal.invariant-loop-slot
invariant-loop-slot l = is_held (drop l.slot-index l.slots) l.place ≡ is_held l.slots l.place
