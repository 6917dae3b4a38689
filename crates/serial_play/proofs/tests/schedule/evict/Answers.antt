use Rattle.eme_types.specs.declared.entry.Entry.TheVariants.{Evict}
use Rattle.cdm_state.proofs.StillOpen.{answered_open}
use Rattle.serial_play.proofs.tests.schedule.evict.Goals as goal

pub returns-clause-open_ : goal.returns-clause-open_
returns-clause-open_ c = answered_open c.evict.result c.args.cdm.now c.evict.new.self (Evict c.args.line c.args.label) (λ place spent. spent) c.evict.ensures.ok c.evict.ensures.err
