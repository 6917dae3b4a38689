use Rattle.ctr_cbc.proofs.StreamLemmas.{stream_of_short}
use Rattle.ctr_cbc.proofs.law.short_iv_law.Goals as goal

pub returns : goal.returns
returns c = stream_of_short
