use Rattle.cdm_state.proofs.Settling.{owes_each_once}
use Rattle.cdm_state.proofs.law.promises_are_owed_once.Goals as goal

pub returns : goal.returns
returns c = owes_each_once
