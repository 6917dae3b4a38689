use Rattle.eme_types.specs.declared.entry.Entry.TheVariants.{Task}
use Rattle.cdm_state.proofs.StillOpen.{answered_open}
use Rattle.serial_play.proofs.tests.schedule.task.Goals as goal

pub returns-clause-open_ : goal.returns-clause-open_
returns-clause-open_ c = answered_open c.task.result c.args.cdm.now c.task.new.self Task (λ place spent. spent) c.task.ensures.ok c.task.ensures.err
