use Rattle.std.proofs.Common.{◌≡◌, drop}
use Rattle.key_claims.specs.Claims.{ready_claim}
use Rattle.key_claims.specs.Slots.{claims_in}
use Rattle.key_claims.proofs.slots.ready_place.Given as goal

-- what is left answers for all
abbrev pub invariant-loop-slot : goal.invariant-loop-slot
invariant-loop-slot l = ready_claim (claims_in l.generations (drop l.slot-index l.slots)) l.track l.index ≡ ready_claim (claims_in l.generations l.slots) l.track l.index
