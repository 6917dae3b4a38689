use Rattle.eme_types.specs.declared.entry.Entry.TheVariants.{Call}
use Rattle.cdm_state.proofs.StillOpen.{more_open}
use Rattle.cdm_state.proofs.tests.ask.Goals as goal

pub returns-in_ok-format-in-Ok : goal.returns-in_ok-format-in-Ok
returns-in_ok-format-in-Ok c = λ held o. more_open c.args.cdm.now c.call.new.self (Call 0 2 c.in_ok-call.call) c.in-Ok.ensures.ok held (λ spent. spent) o
