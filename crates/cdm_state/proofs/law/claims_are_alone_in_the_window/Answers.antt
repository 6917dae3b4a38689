use Rattle.cdm_state.proofs.Windows.{claims_each_once, claims_in_the_window}
use Rattle.cdm_state.proofs.law.claims_are_alone_in_the_window.Goals as goal

pub returns-clause-once : goal.returns-clause-once
returns-clause-once c = claims_each_once

pub returns-clause-window : goal.returns-clause-window
returns-clause-window c = claims_in_the_window
