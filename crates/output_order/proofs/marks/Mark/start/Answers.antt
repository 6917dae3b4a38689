use Rattle.std.proofs.Common.{refl, rules}
use Rattle.cdm_state.specs.Output.{out}
use Rattle.output_order.proofs.marks.Mark.start.Goals as goal

pub returns-clause-mark : goal.returns-clause-mark
unfolding out
returns-clause-mark c = record { entries = refl; published = search rules }
