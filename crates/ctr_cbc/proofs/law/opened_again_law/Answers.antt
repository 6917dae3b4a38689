use Rattle.ctr_cbc.proofs.BackLemmas.{opened_again}
use Rattle.ctr_cbc.proofs.law.opened_again_law.Goals as goal

pub returns : goal.returns
returns c = opened_again c.inverse_law.ensures.back
