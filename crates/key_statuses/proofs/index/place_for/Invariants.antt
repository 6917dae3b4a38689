use Rattle.std.proofs.Common.{take}
use Rattle.key_statuses.specs.Loops.{AreLess}
use Rattle.key_statuses.proofs.index.place_for.Given as goal

abbrev pub invariant-loop-i : goal.invariant-loop-i
invariant-loop-i l = AreLess (take l.i l.numbers) l.number
