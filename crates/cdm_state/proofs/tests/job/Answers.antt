use Rattle.eme_types.specs.declared.entry.Entry.TheVariants.{Job}
use Rattle.cdm_state.proofs.StillOpen.{answered_open}
use Rattle.cdm_state.proofs.tests.job.Goals as goal

pub returns : goal.returns
returns c = answered_open c.job.result c.args.cdm.now c.job.new.self Job (λ place spent. spent) c.job.ensures.ok c.job.ensures.err
