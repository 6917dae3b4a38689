use Rattle.cdm_state.proofs.Settling.{settles_at_most_once}
use Rattle.cdm_state.proofs.law.promises_are_settled_at_most_once.Goals as goal

pub returns : goal.returns
returns c = settles_at_most_once
