use Rattle.std.proofs.Common.{◌≡◌, ◌-◌}
use Rattle.std.specs.Prelude.{ℕ, List}
use Rattle.frag_boxes.specs.declared.records.Trun.{Trun}
use Rattle.sample_aux.specs.declared.laying.DataCursor.{DataCursor}
use Rattle.sample_aux.specs.declared.laying.SampleRange.{SampleRange}
use Rattle.sample_aux.specs.InOrder.{in_order, learnt}
use Rattle.sample_aux.specs.Near.{StaysNear}
use Rattle.sample_aux.specs.Laying.{size_of, range_at, after}
use Rattle.sample_aux.proofs.InOrder.{with_front}
use Rattle.sample_aux.proofs.laying.ranges_of.Given as goal

pub record IsLaid (end : ℕ) (run : Trun) (default : ℕ) (start now : DataCursor) (ranges : List SampleRange) (k : ℕ) : Type 0 where
  pub so_far : with_front ranges (in_order (λ known n. range_at end run.place known (size_of run default n)) after now k (run.count - k)) ≡ in_order (λ known n. range_at end run.place known (size_of run default n)) after start 0 run.count
  pub left : now ≡ learnt after start ranges
  pub near : StaysNear start.at now.at

abbrev pub invariant-loop-k : goal.invariant-loop-k
invariant-loop-k l = IsLaid l.end l.run l.default l.fn.start l.cursor l.ranges l.k
