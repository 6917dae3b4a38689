use Rattle.std.proofs.Common.{◌≡◌, ◌++◌, take}
use Rattle.std.specs.Prelude.{flat_map}
use Rattle.init_data.proofs.pssh.put_kids.Given as goal

abbrev pub invariant-loop-kid : goal.invariant-loop-kid
invariant-loop-kid l = l.body ≡ l.fn.body ++ flat_map (λ kid. kid) (take l.kid-index l.kids)
