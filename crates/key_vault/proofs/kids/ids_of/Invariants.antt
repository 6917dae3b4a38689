use Rattle.std.proofs.Common.{◌≡◌, map, take}
use Rattle.key_vault.proofs.kids.ids_of.Given as goal

abbrev pub invariant-loop-pair : goal.invariant-loop-pair
invariant-loop-pair l = l.ids.items ≡ map (λ pair. pair.0) (take l.pair-index l.pairs)
