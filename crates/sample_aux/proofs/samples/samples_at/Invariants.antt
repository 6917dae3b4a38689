use Rattle.std.proofs.Common.{◌≡◌, ◌-◌, length, drop}
use Rattle.std.specs.Vec.Iter.{into_iter_items, into_iter_len}
use Rattle.sample_aux.specs.InOrder.{in_order}
use Rattle.sample_aux.specs.Resolve.{item_of, place_of, sample_at, samples_at}
use Rattle.sample_aux.specs.Auxiliary.{rule_of}
use Rattle.sample_aux.proofs.InOrder.{with_front}
use Rattle.sample_aux.proofs.samples.samples_at.Given as goal

abbrev pub invariant-loop-k : goal.invariant-loop-k
invariant-loop-k l = record {
  so_far : with_front l.samples (in_order (λ (none : Unit {0}) k. sample_at l.file l.place (place_of l.ranges k) (rule_of l.rules k) (item_of l.fn.items k)) (λ none x. tt) tt l.k (length l.ranges - l.k)) ≡ samples_at l.file l.place l.ranges l.rules l.fn.items;
  rest : into_iter_items l.left ≡ drop l.k l.fn.items;
  len : into_iter_len l.left ≡ length (into_iter_items l.left);
}
