use Rattle.std.proofs.Common.{◌≡◌, ◌++◌, take}
use Rattle.player_core.specs.Inspect.{lines_from}
use Rattle.player_core.proofs.inspect.put_fragments.Given as goal

-- the lines of the fragments so far
abbrev pub invariant-loop-i : goal.invariant-loop-i
invariant-loop-i l = l.out ≡ l.fn.out ++ lines_from 1 (take l.i l.fragments)
