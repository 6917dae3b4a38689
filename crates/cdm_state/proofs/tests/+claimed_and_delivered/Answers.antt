use Rattle.cdm_state.proofs.StillOpen.{claimed_open, earlier_place}
use Rattle.cdm_state.proofs.tests.+claimed_and_delivered.Goals as goal

pub returns : goal.returns
returns t c = λ held o.
    let given = claimed_open c.args.cdm.now c.claim.new.self 1 c.in_ok-claim.claim c.in_ok-claim.ensures.ok held o in
    let other = earlier_place c.args.cdm.now held c.in_ok-claim.claim.place c.in_ok-claim.ensures.ok.place o in
    c.is_taken.ensures held other (c.publish.ensures held (c.in_ok-rest.ensures held given))
