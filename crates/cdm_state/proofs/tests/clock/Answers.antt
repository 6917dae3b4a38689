use Rattle.eme_types.specs.declared.entry.Entry.TheVariants.{Tick}
use Rattle.cdm_state.proofs.StillOpen.{more_open}
use Rattle.cdm_state.proofs.tests.clock.Goals as goal

pub returns-in_err-from_str-2 : goal.returns-in_err-from_str-2
returns-in_err-from_str-2 c = λ held o. more_open c.args.cdm.now c.tick.new.self (Tick 5 c.args.moment) c.in_ok-tick.ensures.ok held (λ spent. spent) o

pub returns : goal.returns
returns c = λ held o. more_open c.args.cdm.now c.tick.new.self (Tick 5 c.args.moment) c.in_ok-tick.ensures.ok held (λ spent. spent) o
