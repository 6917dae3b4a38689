use Rattle.std.proofs.Common.{sym}
use Rattle.output_order.specs.Log.{log_of}
use Rattle.output_order.proofs.log.log_text.Goals as goal

pub returns : goal.returns
unfolding log_of
returns c = sym c.in_ok-text.ensures
