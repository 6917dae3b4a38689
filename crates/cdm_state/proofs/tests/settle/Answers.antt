use Rattle.eme_types.specs.declared.entry.Entry.TheVariants.{Settle}
use Rattle.cdm_state.proofs.StillOpen.{answered_open}
use Rattle.cdm_state.proofs.tests.settle.Goals as goal

pub returns : goal.returns
returns c = answered_open c.settle.result c.args.cdm.now c.settle.new.self (Settle 9) (λ place spent. spent) c.settle.ensures.ok c.settle.ensures.err
