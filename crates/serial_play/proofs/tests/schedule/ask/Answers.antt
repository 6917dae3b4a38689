use Rattle.eme_types.specs.declared.entry.Entry.TheVariants.{Call}
use Rattle.cdm_state.proofs.StillOpen.{answered_open}
use Rattle.serial_play.proofs.tests.schedule.ask.Goals as goal

pub returns-clause-open_ : goal.returns-clause-open_
returns-clause-open_ c = answered_open c.call.result c.args.cdm.now c.call.new.self (Call c.args.lane c.args.line c.args.call) (λ place spent. spent) c.call.ensures.ok c.call.ensures.err
