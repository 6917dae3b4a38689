use Rattle.std.proofs.Common.{◌≡◌, ◌-◌, length}
use Rattle.sample_aux.specs.InOrder.{in_order}
use Rattle.sample_aux.specs.Auxiliary.{data_at, rule_of, range_of, by_ranges}
use Rattle.sample_aux.proofs.InOrder.{with_front}
use Rattle.sample_aux.proofs.sample_data.by_ranges.Given as goal

abbrev pub invariant-loop-k : goal.invariant-loop-k
invariant-loop-k l = with_front l.items (in_order (λ (none : Unit {0}) k. data_at l.file l.sizes l.offsets (rule_of l.rules k) (range_of l.ranges k)) (λ none x. tt) tt l.k (length l.rules - l.k)) ≡ by_ranges l.file l.sizes l.offsets l.rules l.ranges
