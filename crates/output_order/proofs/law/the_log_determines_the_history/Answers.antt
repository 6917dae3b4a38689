use Rattle.output_order.proofs.OneLog.{log_determines}
use Rattle.output_order.proofs.law.the_log_determines_the_history.Goals as goal

pub returns : goal.returns
returns c = log_determines
