use Rattle.std.proofs.Common.{take}
use Rattle.key_statuses.specs.Loops.{NoneAfter}
use Rattle.key_statuses.proofs.report.place_for.Given as goal

abbrev pub invariant-loop-i : goal.invariant-loop-i
invariant-loop-i l = NoneAfter (take l.i l.list) l.kid
