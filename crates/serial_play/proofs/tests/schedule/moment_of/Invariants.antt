use Rattle.std.proofs.Common.{◌≡◌, take}
use Rattle.cdm_state.specs.Moment.{last_moment}
use Rattle.serial_play.proofs.tests.schedule.moment_of.Given as goal

abbrev pub invariant-loop-entry : goal.invariant-loop-entry
invariant-loop-entry l = l.moment ≡ last_moment (take l.entry-index l.history)
