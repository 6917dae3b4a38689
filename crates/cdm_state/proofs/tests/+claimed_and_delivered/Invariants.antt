use Rattle.cdm_state.proofs.tests.+claimed_and_delivered.Given as goal

abbrev pub decreases-claimed_and_delivered : goal.decreases-claimed_and_delivered
decreases-claimed_and_delivered l = l.count
