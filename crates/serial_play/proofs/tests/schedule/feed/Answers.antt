use Rattle.eme_types.specs.declared.entry.Entry.TheVariants.{Feed}
use Rattle.cdm_state.proofs.StillOpen.{answered_open}
use Rattle.serial_play.proofs.tests.schedule.feed.Goals as goal

pub returns-clause-open_ : goal.returns-clause-open_
returns-clause-open_ c = answered_open c.feed.result c.args.cdm.now c.feed.new.self (Feed c.args.line c.args.given) (λ place spent. spent) c.feed.ensures.ok c.feed.ensures.err
