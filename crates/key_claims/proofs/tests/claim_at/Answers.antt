use Rattle.key_claims.proofs.InHand.{below_claim, given_in_hand, given_place, older_claimed}
use Rattle.key_claims.proofs.tests.claim_at.Goals as goal

pub returns-clause-below : goal.returns-clause-below
returns-clause-below c = below_claim c.claim.result _ c.args.tracks.now c.claim.new.self 3 c.args.place c.claim.ensures.ok c.claim.ensures.err c.requires

pub returns-clause-given : goal.returns-clause-given
returns-clause-given c = given_in_hand c.claim.result _ c.args.tracks.now c.claim.new.self 3 c.args.place c.len.ensures.sound c.requires c.claim.ensures.ok

pub returns-clause-place : goal.returns-clause-place
returns-clause-place c = given_place c.claim.result _ c.args.tracks.now c.claim.new.self 3 c.args.place c.claim.ensures.ok

pub returns-clause-older : goal.returns-clause-older
returns-clause-older c = λ held lt may. older_claimed c.claim.result _ c.args.tracks.now c.claim.new.self 3 c.args.place held c.claim.ensures.ok c.claim.ensures.err lt may
