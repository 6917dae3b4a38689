use Rattle.player_core.specs.Course.{Steps}
use Rattle.player_core.specs.Left.{work_left}
use Rattle.player_core.proofs.settle.settle_all.Given as goal

abbrev pub invariant-loop-cdm : goal.invariant-loop-cdm
invariant-loop-cdm l = Steps l.fn.cdm l.cdm

abbrev pub decreases-loop-cdm : goal.decreases-loop-cdm
decreases-loop-cdm l = work_left l.cdm.tracks l.cdm.history
