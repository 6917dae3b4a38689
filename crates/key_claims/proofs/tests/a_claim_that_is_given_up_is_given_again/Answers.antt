use Rattle.key_claims.specs.Claims.{is_other}
use Rattle.key_claims.proofs.InHand.{below_filter}
use Rattle.key_claims.proofs.tests.a_claim_that_is_given_up_is_given_again.Goals as goal

pub claim_at-requires-2 : goal.claim_at-requires-2
claim_at-requires-2 g c = rw c.give_up.ensures (below_filter (is_other c.in_ok-claim.claim.place) 2 _ c.claim_at.ensures.below)
