use Rattle.std.proofs.Common.{◌≡◌, ◌++◌}
use Rattle.player_core.specs.Demo.{joined, kid_text}
use Rattle.player_core.proofs.demo.put_kids.Given as goal

-- the key ids so far
abbrev pub invariant-loop-i : goal.invariant-loop-i
invariant-loop-i l = l.out ≡ l.fn.out ++ joined (kid_text l.keys) l.i
