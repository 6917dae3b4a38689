use Rattle.std.proofs.Common.{arith}
use Rattle.key_claims.proofs.tests.samples_are_published_in_order.Goals as goal

pub is_taken-requires-2 : goal.is_taken-requires-2
is_taken-requires-2 g c = c.is_taken.ensures c.in_ok-first.first (omega (arith, c.in_ok-first.ensures.place, c.in_ok-second.ensures.place)) (c.claim_at-2.ensures.older c.in_ok-first.first (omega (arith, c.in_ok-first.ensures.place)) c.in_ok-first.ensures.given)
