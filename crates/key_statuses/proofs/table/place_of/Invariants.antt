use Rattle.std.proofs.Common.{take}
use Rattle.key_statuses.specs.Loops.{Unknown}
use Rattle.key_statuses.proofs.table.place_of.Given as goal

abbrev pub invariant-loop-i : goal.invariant-loop-i
invariant-loop-i l = Unknown (take l.i l.table) l.kid
