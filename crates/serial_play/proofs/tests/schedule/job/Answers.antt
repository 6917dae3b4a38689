use Rattle.eme_types.specs.declared.entry.Entry.TheVariants.{Job}
use Rattle.cdm_state.proofs.StillOpen.{answered_open}
use Rattle.serial_play.proofs.tests.schedule.job.Goals as goal

pub returns-clause-open_ : goal.returns-clause-open_
returns-clause-open_ c = answered_open c.job.result c.args.cdm.now c.job.new.self Job (λ place spent. spent) c.job.ensures.ok c.job.ensures.err
