use Rattle.key_claims.proofs.InHand.{held_revoked}
use Rattle.key_claims.proofs.tests.is_taken_after.Goals as goal

pub is_taken-requires : goal.is_taken-requires
is_taken-requires c = held_revoked c.args.session _ _ _ c.in_ok-claim.claim c.revoke.ensures c.in_ok-claim.ensures.given
