use Rattle.std.proofs.Common.{ℕ, inr, sym, ap, rules}
use Rattle.std.proofs.lemmas.Result.{err_from_is_err_and}
use Rattle.sample_aux.specs.declared.laying.DataCursor.{DataCursor}
use Rattle.sample_aux.specs.InOrder.{in_order}
use Rattle.sample_aux.specs.Laying.{size_of, range_at, after}
use Rattle.sample_aux.proofs.InOrder.{one_more, broken_off, finished, learnt_more}
use Rattle.sample_aux.proofs.Near.{behind_near}
use Rattle.sample_aux.proofs.laying.ranges_of.Goals as goal

pub returns-in_err-range-clause-gives : goal.returns-in_err-range-clause-gives
returns-in_err-range-clause-gives c =
    let p = err_from_is_err_and c.from_residual.result c.from_residual.ensures.1 in
    let read = λ (known : DataCursor) (n : ℕ). range_at c.args.end c.args.run.now.place known (size_of c.args.run.now c.args.default n) in
    rw (p.1, p.2) (inr (broken_off read after c.loop-k.ranges c.loop-k.cursor c.loop-k.k c.args.run.now.count c.in_err-range.field-0.0 (in_order read after c.args.start 0 c.args.run.now.count) c.loop-k-test.true (rw c.size_of-size.ensures at (sym c.in_err-range.ensures.value)) c.loop-k.invariant.so_far))

pub loop-k-preserved : goal.loop-k-preserved
loop-k-preserved c =
    let read = λ (known : DataCursor) (n : ℕ). range_at c.args.end c.args.run.now.place known (size_of c.args.run.now c.args.default n) in
    record {
      so_far = rw (c.advance-cursor.ensures, c.in_ok-push.ensures.ok) (one_more read after c.loop-k.ranges c.loop-k.cursor c.loop-k.k c.args.run.now.count c.in_ok-range.range (in_order read after c.args.start 0 c.args.run.now.count) c.loop-k-test.true (rw c.size_of-size.ensures at (sym c.in_ok-range.ensures.value)) c.loop-k.invariant.so_far);
      left = rw (c.advance-cursor.ensures, c.in_ok-push.ensures.ok, learnt_more after c.args.start c.loop-k.ranges c.in_ok-range.range) (ap (λ (l : DataCursor). after l c.in_ok-range.range) c.loop-k.invariant.left);
      near = rw c.advance-cursor.ensures (behind_near c.in_ok-range.range.size c.args.end c.args.start.at c.loop-k.cursor.at (search rules) (rw c.in_ok-range.ensures.size.0 c.in_ok-range.ensures.size.1) c.loop-k.invariant.near);
    }

pub returns-clause-gives : goal.returns-clause-gives
returns-clause-gives c =
    let read = λ (known : DataCursor) (n : ℕ). range_at c.args.end c.args.run.now.place known (size_of c.args.run.now c.args.default n) in
    finished read after c.loop-k.ranges c.loop-k.cursor c.loop-k.k c.args.run.now.count (in_order read after c.args.start 0 c.args.run.now.count) c.loop-k-test.false c.loop-k.invariant.so_far
