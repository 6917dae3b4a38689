use Rattle.std.proofs.Common.{◌≡◌, ◌++◌}
use Rattle.key_vault.proofs.kids.as_kids.Given as goal

abbrev pub invariant-loop-kid : goal.invariant-loop-kid
invariant-loop-kid l = l.kids ++ l.kid-iterator ≡ l.initial.kid-iterator
