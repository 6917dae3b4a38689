use Rattle.std.proofs.Common.{sym}
use Rattle.eme_types.specs.declared.entry.Entry.TheVariants.{GiveUp}
use Rattle.cdm_state.proofs.StillOpen.{more_open}
use Rattle.serial_play.proofs.tests.schedule.give_up.Goals as goal

pub returns-clause-open_ : goal.returns-clause-open_
returns-clause-open_ c = λ held other o. more_open c.args.cdm.now c.give_up.new.self (GiveUp c.args.claim.place) c.give_up.ensures held (λ same. other (sym same)) o
