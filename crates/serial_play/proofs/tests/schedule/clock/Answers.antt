use Rattle.eme_types.specs.declared.entry.Entry.TheVariants.{Tick}
use Rattle.cdm_state.proofs.StillOpen.{answered_open}
use Rattle.serial_play.proofs.tests.schedule.clock.Goals as goal

pub returns-clause-open_ : goal.returns-clause-open_
returns-clause-open_ c = answered_open c.tick.result c.args.cdm.now c.tick.new.self (Tick c.args.line c.args.moment) (λ place spent. spent) c.tick.ensures.ok c.tick.ensures.err
