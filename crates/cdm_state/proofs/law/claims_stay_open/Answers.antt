use Rattle.cdm_state.proofs.StillOpen.{stands_on, stays_open}
use Rattle.cdm_state.proofs.law.claims_stay_open.Goals as goal

pub returns-clause-stands : goal.returns-clause-stands
returns-clause-stands c = stands_on

pub returns-clause-open_ : goal.returns-clause-open_
returns-clause-open_ c = stays_open
