use Rattle.output_order.proofs.Logs.{log_goes_on}
use Rattle.output_order.proofs.GoingOn.{file_goes_on, summary_goes_on}
use Rattle.output_order.proofs.law.texts_go_on.Goals as goal

pub returns-clause-log : goal.returns-clause-log
returns-clause-log c = log_goes_on

pub returns-clause-file : goal.returns-clause-file
returns-clause-file c = file_goes_on

pub returns-clause-summary : goal.returns-clause-summary
returns-clause-summary c = summary_goes_on
