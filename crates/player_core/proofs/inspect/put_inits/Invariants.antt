use Rattle.std.proofs.Common.{◌≡◌, ◌++◌, take}
use Rattle.std.specs.List.{flat_map}
use Rattle.player_core.specs.Inspect.{init_line}
use Rattle.player_core.proofs.inspect.put_inits.Given as goal

-- the lines of the initialization data so far
abbrev pub invariant-loop-init : goal.invariant-loop-init
invariant-loop-init l = l.out ≡ l.fn.out ++ flat_map (init_line l.number) (take l.init-index l.inits)
