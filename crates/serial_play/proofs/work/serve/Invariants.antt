use Rattle.std.proofs.Common.{◌≡◌}
use Rattle.serial_play.specs.Served.{weight}
use Rattle.serial_play.proofs.Machines.{after_work}
use Rattle.serial_play.proofs.work.serve.Given as goal

-- what is left of the work makes of the machine what all of it does
abbrev pub invariant-work : goal.invariant-work
invariant-work l = after_work l.sessions.machine ≡ after_work l.fn.sessions.machine

abbrev pub decreases-work : goal.decreases-work
decreases-work l = weight l.sessions.machine
