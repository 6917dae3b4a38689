use Rattle.std.proofs.Common.{◌≡◌, ℕ, ◌+◌, ◌-◌, List, ◌++◌, ap, ◌∙◌, sym, Some, slice_get, take, arith}
use Rattle.std.specs.List.{sum_by}
use Rattle.std.proofs.lemmas.List.{take_all}
use Rattle.eme_types.specs.declared.entry.Entry.{Entry}
use Rattle.cdm_state.specs.Settlements.{effects_in}
use Rattle.cdm_state.specs.Feeds.{fragments_fed}
use Rattle.output_order.specs.Log.{log_of, entry_line}
use Rattle.output_order.proofs.Logs.{logged_first, logged_more}
use Rattle.output_order.proofs.log.log_beyond.Goals as goal

pub loop-i-init : goal.loop-i-init
loop-i-init c =
    let h : List Entry = c.history-history.result.now in
    let fed : c.args.before ≡ sum_by fragments_fed (take c.args.first h) = c.requires.fed ∙ ap (λ (es : List Entry). sum_by fragments_fed (take c.args.first es)) (sym c.history-history.ensures.items) in
    rw c.new-text.ensures (logged_first c.args.cdm.now.tracks h c.args.first c.args.before fed)

pub loop-i-preserved : goal.loop-i-preserved
loop-i-preserved c =
    let ids : List ℕ = c.args.cdm.now.tracks in
    let h : List Entry = c.history-history.result.now in
    let i : ℕ = c.loop-i.i in
    let before : i + 1 - 1 ≡ i = omega arith in
    let seen : slice_get (effects_in ids h) i ≡ Some c.effects_at.result.now = ap (λ n. slice_get (effects_in ids h) n) (sym before) ∙ (ap (λ g. slice_get (effects_in ids g) (i + 1 - 1)) c.history-history.ensures.items ∙ c.effects_at.ensures) in
    let line : c.extend_from_slice.new.self ≡ c.loop-i.text ++ entry_line (i + 1) c.loop-i.fed c.index-history-i.result = c.in_ok-extend_from_slice.ensures.ok ∙ ap (λ (x : List ℕ). c.loop-i.text ++ x) (c.as_bytes.ensures.value ∙ c.in_ok-line.ensures) in
    rw c.fragments_fed-fed.ensures.value (logged_more ids h c.args.first i c.loop-i.fed c.index-history-i.result c.loop-i.text c.put_effects.new.out (record { within = c.loop-i-test.true; is = c.index-history-i.is; effects = c.effects_at.result.now; did = seen; now = c.extend_from_slice.new.self; line = line; more = c.in_ok-put_effects.ensures }) c.loop-i.invariant)

pub returns : goal.returns
returns c =
    let ids : List ℕ = c.args.cdm.now.tracks in
    let h : List Entry = c.history-history.result.now in
    let all : take c.loop-i.i h ≡ h = take_all c.loop-i.i h c.loop-i-test.false in
    let is : h ≡ c.args.cdm.now.history = c.history-history.ensures.items in
    sym (ap (λ (es : List Entry). log_of ids es) (all ∙ is)) ∙ (c.loop-i.invariant.all ∙ ap (λ (es : List Entry). log_of ids (take c.args.first es) ++ c.loop-i.text) is)
