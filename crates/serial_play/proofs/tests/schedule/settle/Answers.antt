use Rattle.eme_types.specs.declared.entry.Entry.TheVariants.{Settle}
use Rattle.cdm_state.proofs.StillOpen.{answered_open}
use Rattle.serial_play.proofs.tests.schedule.settle.Goals as goal

pub returns-clause-open_ : goal.returns-clause-open_
returns-clause-open_ c = answered_open c.settle.result c.args.cdm.now c.settle.new.self (Settle c.args.line) (λ place spent. spent) c.settle.ensures.ok c.settle.ensures.err
