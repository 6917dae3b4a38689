use Rattle.std.proofs.Common.{◌≡◌, ◌+◌, ◌∙◌, sym, ap, List, take, drop, arith}
use Rattle.std.specs.List.{sum_by}
use Rattle.eme_types.specs.declared.entry.Entry.{Entry}
use Rattle.cdm_state.specs.Feeds.{fragments_fed}
use Rattle.output_order.proofs.Logs.{fed_apart, fed_on, fed_over}
use Rattle.output_order.proofs.since.fed_first.Goals as goal

pub loop-i-init : goal.loop-i-init
loop-i-init c =
    let h : List Entry = c.history-history.result.now in
    c.fragments-fed.ensures ∙ (ap (λ (es : List Entry). sum_by fragments_fed es) (sym c.history-history.ensures.items) ∙ fed_apart h c.args.first)

pub overflow_sub-fed : goal.overflow_sub-fed
overflow_sub-fed c =
    let h : List Entry = c.history-history.result.now in
    let on : sum_by fragments_fed (drop c.loop-i.i h) ≡ fragments_fed c.index-history-i.result + sum_by fragments_fed (drop (c.loop-i.i + 1) h) = fed_on h c.loop-i.i c.index-history-i.result c.loop-i-test.true c.index-history-i.is in
    omega (arith, c.loop-i.invariant, on, c.fragments_fed-fed.ensures.value)

pub loop-i-preserved : goal.loop-i-preserved
loop-i-preserved c =
    let h : List Entry = c.history-history.result.now in
    let on : sum_by fragments_fed (drop c.loop-i.i h) ≡ fragments_fed c.index-history-i.result + sum_by fragments_fed (drop (c.loop-i.i + 1) h) = fed_on h c.loop-i.i c.index-history-i.result c.loop-i-test.true c.index-history-i.is in
    omega (arith, c.loop-i.invariant, on, c.fragments_fed-fed.ensures.value)

pub returns : goal.returns
returns c =
    let h : List Entry = c.history-history.result.now in
    let over : sum_by fragments_fed (drop c.loop-i.i h) ≡ 0 = fed_over h c.loop-i.i c.loop-i-test.false in
    let left : c.loop-i.fed ≡ sum_by fragments_fed (take c.args.first h) = omega (arith, c.loop-i.invariant, over) in
    left ∙ ap (λ (es : List Entry). sum_by fragments_fed (take c.args.first es)) c.history-history.ensures.items
