use Rattle.cdm_state.proofs.Histories.{legal_front}
use Rattle.cdm_state.proofs.law.fronts_are_legal.Goals as goal

pub returns : goal.returns
returns c = λ ids h es legal. legal_front ids h es legal
