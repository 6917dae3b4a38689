use Rattle.std.proofs.Common.{◌≡◌, ◌++◌}
use Rattle.player_core.specs.Demo.{joined, key_text}
use Rattle.player_core.proofs.demo.put_keys.Given as goal

-- the keys so far
abbrev pub invariant-loop-i : goal.invariant-loop-i
invariant-loop-i l = l.out ≡ l.fn.out ++ joined (key_text l.keys) l.i
