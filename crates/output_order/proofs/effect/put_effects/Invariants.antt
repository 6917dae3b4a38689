use Rattle.std.proofs.Common.{◌≡◌, ◌++◌, take}
use Rattle.output_order.specs.Log.{effect_lines}
use Rattle.output_order.proofs.effect.put_effects.Given as goal

-- the lines of the effects so far
abbrev pub invariant-loop-effect : goal.invariant-loop-effect
invariant-loop-effect l = l.out ≡ l.fn.out ++ effect_lines (take l.effect-index l.effects)
