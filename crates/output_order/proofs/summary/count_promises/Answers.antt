use Rattle.std.proofs.Common.{◌≡◌, ◌≤◌, ℕ, ◌+◌, ◌-◌, List, Some, slice_get, length, count_by, refl, ap, ◌∙◌, sym, arith}
use Rattle.std.proofs.lemmas.Option.{slice_get_read}
use Rattle.eme_types.specs.declared.call.Effect.{Effect}
use Rattle.eme_types.specs.declared.entry.Entry.{Entry}
use Rattle.cdm_state.specs.Settlements.{is_call, effects_in}
use Rattle.output_order.specs.Summary.{resolves, rejects}
use Rattle.output_order.proofs.Sizes.{counted_more, at_most_one_call, all_counted}
use Rattle.output_order.proofs.summary.count_promises.Goals as goal

pub loop-i-preserved : goal.loop-i-preserved
loop-i-preserved c =
    let effects : List (List Effect) = effects_in c.args.cdm.now.tracks c.args.cdm.now.history in
    let h : List Entry = c.history-history.result.now in
    let i : ℕ = c.loop-i.i in
    let e : Entry = c.index-history-i.result in
    let before : i + 1 - 1 ≡ i = omega arith in
    let seen : slice_get effects i ≡ Some c.effects_at-effects.result.now = ap (λ n. slice_get effects n) (sym before) ∙ c.effects_at-effects.ensures in
    let call : c.calls_of-made.result ≡ is_call e = c.calls_of-made.ensures in
    let one : is_call e ≤ 1 = at_most_one_call e in
    let few : c.loop-i.made ≤ i = c.loop-i.invariant.few in
    record {
      made = counted_more is_call h i e c.loop-i.made (c.loop-i.made + c.calls_of-made.result) c.calls_of-made.result (slice_get_read h (length h) i e refl c.loop-i-test.true c.index-history-i.is) c.loop-i.invariant.made call refl;
      few = omega (arith, call, one, few);
      resolved = counted_more (count_by resolves) effects i c.effects_at-effects.result.now c.loop-i.resolved c.in_ok-resolved.resolved c.count_resolved.result seen c.loop-i.invariant.resolved c.count_resolved.ensures c.in_ok-resolved.ensures;
      rejected = counted_more (count_by rejects) effects i c.effects_at-effects.result.now c.loop-i.rejected c.in_ok-rejected.rejected c.count_rejected.result seen c.loop-i.invariant.rejected c.count_rejected.ensures c.in_ok-rejected.ensures;
    }

pub returns-clause-resolved : goal.returns-clause-resolved
returns-clause-resolved c =
    c.loop-i.invariant.resolved ∙ all_counted (count_by resolves) c.args.cdm.now.tracks c.args.cdm.now.history c.history-history.result.now c.loop-i.i c.history-history.ensures.items c.loop-i-test.false

pub returns-clause-rejected : goal.returns-clause-rejected
returns-clause-rejected c =
    c.loop-i.invariant.rejected ∙ all_counted (count_by rejects) c.args.cdm.now.tracks c.args.cdm.now.history c.history-history.result.now c.loop-i.i c.history-history.ensures.items c.loop-i-test.false
