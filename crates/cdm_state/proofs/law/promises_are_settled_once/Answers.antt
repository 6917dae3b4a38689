use Rattle.cdm_state.proofs.Settling.{settles_each_once}
use Rattle.cdm_state.proofs.law.promises_are_settled_once.Goals as goal

pub returns : goal.returns
returns c = settles_each_once
