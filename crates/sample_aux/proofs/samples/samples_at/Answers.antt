use Rattle.std.proofs.Common.{ℕ, length, inl, inr}
use Rattle.std.specs.Vec.Iter.{into_iter_items}
use Rattle.std.proofs.lemmas.Result.{err_from_is_err_and}
use Rattle.sample_aux.specs.Resolve.{item_of, place_of, sample_at}
use Rattle.sample_aux.specs.Auxiliary.{rule_of}
use Rattle.sample_aux.proofs.InOrder.{one_more, broken_off, finished}
use Rattle.sample_aux.proofs.ItemsLeft.{item_here, rest_here}
use Rattle.sample_aux.proofs.samples.samples_at.Goals as goal

pub returns-in_err-sample : goal.returns-in_err-sample
returns-in_err-sample c =
    let p = err_from_is_err_and c.from_residual.result c.from_residual.ensures.1 in
    let item = item_here c.args.items (into_iter_items c.loop-k.left) c.loop-k.k c.next_item-item.result c.next_item-item.ensures.item c.loop-k.invariant.rest in
    let read = λ (none : Unit {0}) (k : ℕ). sample_at c.args.file.now c.args.place (place_of c.args.ranges.now k) (rule_of c.args.rules.now k) (item_of c.args.items k) in
    rw (p.1, p.2) (elim c.in_err-sample.ensures [
      | inl m ↦ inl m
      | inr e ↦ inr (broken_off read (λ none x. tt) c.loop-k.samples tt c.loop-k.k (length c.args.ranges.now) c.in_err-sample.field-0.0 _ c.loop-k-test.true (rw (c.place_of-range.ensures, c.rule_of-rule.ensures, item) at e) c.loop-k.invariant.so_far)
    ])

pub loop-k-preserved : goal.loop-k-preserved
loop-k-preserved c =
    let item = item_here c.args.items (into_iter_items c.loop-k.left) c.loop-k.k c.next_item-item.result c.next_item-item.ensures.item c.loop-k.invariant.rest in
    let read = λ (none : Unit {0}) (k : ℕ). sample_at c.args.file.now c.args.place (place_of c.args.ranges.now k) (rule_of c.args.rules.now k) (item_of c.args.items k) in
    record {
      so_far = rw c.in_ok-push.ensures.ok (one_more read (λ none x. tt) c.loop-k.samples tt c.loop-k.k (length c.args.ranges.now) c.in_ok-sample.sample _ c.loop-k-test.true (rw (c.place_of-range.ensures, c.rule_of-rule.ensures, item) at c.in_ok-sample.ensures) c.loop-k.invariant.so_far);
      rest = rest_here c.args.items _ _ c.loop-k.k c.next_item-item.ensures.rest c.loop-k.invariant.rest;
      len = c.next_item-item.ensures.len;
    }

pub returns : goal.returns
returns c =
    let read = λ (none : Unit {0}) (k : ℕ). sample_at c.args.file.now c.args.place (place_of c.args.ranges.now k) (rule_of c.args.rules.now k) (item_of c.args.items k) in
    finished read (λ none x. tt) c.loop-k.samples tt c.loop-k.k (length c.args.ranges.now) _ c.loop-k-test.false c.loop-k.invariant.so_far
