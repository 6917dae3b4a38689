use Rattle.std.proofs.Common.{◌≡◌, ◌++◌, take}
use Rattle.std.specs.List.{flat_map}
use Rattle.output_order.specs.Log.{status_words}
use Rattle.output_order.proofs.effect.put_statuses.Given as goal

-- the statuses so far
abbrev pub invariant-loop-kid : goal.invariant-loop-kid
invariant-loop-kid l = l.out ≡ l.fn.out ++ flat_map status_words (take l.kid-index l.list)
