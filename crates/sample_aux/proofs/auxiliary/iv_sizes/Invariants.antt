use Rattle.std.proofs.Common.{◌≡◌, map, take}
use Rattle.sample_aux.specs.Auxiliary.{iv_size_of}
use Rattle.sample_aux.proofs.auxiliary.iv_sizes.Given as goal

abbrev pub invariant-loop-rule : goal.invariant-loop-rule
invariant-loop-rule l = l.sizes ≡ map iv_size_of (take l.rule-index l.rules)
