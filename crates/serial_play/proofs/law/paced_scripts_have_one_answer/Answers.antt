use Rattle.serial_play.proofs.Answer.{one_answer}
use Rattle.serial_play.proofs.law.paced_scripts_have_one_answer.Goals as goal

pub returns : goal.returns
returns c = one_answer
