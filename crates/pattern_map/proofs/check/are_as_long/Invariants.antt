use Rattle.std.proofs.Common.{◌≡◌, ◌+◌, drop}
use Rattle.std.specs.List.{sum_by}
use Rattle.eme_types.specs.WellFormed.{sub_length}
use Rattle.pattern_map.proofs.check.are_as_long.Given as goal

abbrev pub invariant-loop-sub : goal.invariant-loop-sub
invariant-loop-sub l = l.size + sum_by sub_length (drop l.sub-index l.subs) ≡ l.left + sum_by sub_length l.subs
