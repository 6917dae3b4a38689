use Rattle.std.proofs.Common.{◌≡◌, drop}
use Rattle.key_claims.specs.Claims.{claimed_in}
use Rattle.key_claims.specs.Slots.{claims_in}
use Rattle.key_claims.proofs.slots.is_claimed.Given as goal

-- what is left answers for all
abbrev pub invariant-loop-slot : goal.invariant-loop-slot
invariant-loop-slot l = claimed_in (claims_in l.generations (drop l.slot-index l.slots)) l.track l.index ≡ claimed_in (claims_in l.generations l.slots) l.track l.index
