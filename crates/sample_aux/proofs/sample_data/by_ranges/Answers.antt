use Rattle.std.proofs.Common.{ℕ, length, inl, inr}
use Rattle.std.proofs.lemmas.Result.{err_from_is_err_and}
use Rattle.sample_aux.specs.Auxiliary.{data_at, rule_of, range_of}
use Rattle.sample_aux.proofs.InOrder.{one_more, broken_off, finished}
use Rattle.sample_aux.proofs.sample_data.by_ranges.Goals as goal

pub returns-in_err-item : goal.returns-in_err-item
returns-in_err-item c =
    let p = err_from_is_err_and c.from_residual.result c.from_residual.ensures.1 in
    let read = λ (none : Unit {0}) (k : ℕ). data_at c.args.file.now c.args.sizes c.args.offsets (rule_of c.args.rules.now k) (range_of c.args.ranges.now k) in
    rw (p.1, p.2) (elim c.in_err-item.ensures [
      | inl m ↦ inl m
      | inr e ↦ inr (broken_off read (λ none x. tt) c.loop-k.items tt c.loop-k.k (length c.args.rules.now) c.in_err-item.field-0.0 _ c.loop-k-test.true (rw (c.rule_of-rule.ensures, c.range_of-range.ensures) at e) c.loop-k.invariant)
    ])

pub loop-k-preserved : goal.loop-k-preserved
loop-k-preserved c =
    let read = λ (none : Unit {0}) (k : ℕ). data_at c.args.file.now c.args.sizes c.args.offsets (rule_of c.args.rules.now k) (range_of c.args.ranges.now k) in
    rw c.in_ok-push.ensures.ok (one_more read (λ none x. tt) c.loop-k.items tt c.loop-k.k (length c.args.rules.now) c.in_ok-item.item _ c.loop-k-test.true (rw (c.rule_of-rule.ensures, c.range_of-range.ensures) at c.in_ok-item.ensures) c.loop-k.invariant)

pub returns : goal.returns
returns c =
    let read = λ (none : Unit {0}) (k : ℕ). data_at c.args.file.now c.args.sizes c.args.offsets (rule_of c.args.rules.now k) (range_of c.args.ranges.now k) in
    finished read (λ none x. tt) c.loop-k.items tt c.loop-k.k (length c.args.rules.now) _ c.loop-k-test.false c.loop-k.invariant
