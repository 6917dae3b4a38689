use Rattle.eme_types.specs.declared.entry.Entry.TheVariants.{Evict}
use Rattle.cdm_state.proofs.StillOpen.{more_open}
use Rattle.cdm_state.proofs.tests.evict.Goals as goal

pub returns-in_ok-format-in-Ok : goal.returns-in_ok-format-in-Ok
returns-in_ok-format-in-Ok c = λ held o. more_open c.args.cdm.now c.evict.new.self (Evict 7 c.in_ok-label.label) c.in-Ok.ensures.ok held (λ spent. spent) o
