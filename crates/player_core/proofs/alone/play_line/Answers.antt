use Rattle.std.proofs.Common.{◌≡◌, ℕ, List, Option, slice_get, refl, ap, ◌∙◌, sym, subst}
use Rattle.eme_types.specs.declared.call.AppCall.{AppCall}
use Rattle.eme_types.specs.declared.media.Fragment.{Fragment}
use Rattle.eme_types.specs.declared.entry.Entry.{Entry}
use Rattle.eme_types.specs.declared.entry.Entry.TheVariants.{Call, Tick, Evict}
use Rattle.script_lang.specs.declared.script.Action.{Action}
use Rattle.play_parts.specs.Asks.{entry_of, entry_for}
use Rattle.player_core.specs.Course.{Goes}
use Rattle.player_core.proofs.Steps.{goes_now}
use Rattle.player_core.proofs.alone.play_line.Goals as goal

pub returns-in-Ok-clause-goes : goal.returns-in-Ok-clause-goes
returns-in-Ok-clause-goes c =
    let given : Option Fragment = slice_get c.args.left.now.items 0 in
    let line = c.args.line.now in
    let is : entry_of line given ≡ Call line.lane line.number c.in-Ask.call = ap (λ (a : Action). entry_for line.number line.lane a given) c.in-Ask.is in
    let copy : Call line.lane line.number c.in_ok-call-in-Ask.call ≡ entry_of line given = ap (λ (call : AppCall). Call line.lane line.number call) c.in_ok-call-in-Ask.ensures ∙ sym is in
    subst (λ (e : Entry). Goes c.args.cdm.now c.call.new.self e) copy (goes_now c.args.cdm.now c.args.cdm.now c.call.new.self (Call line.lane line.number c.in_ok-call-in-Ask.call) refl c.in-Ok.ensures.ok (λ w t i n k x. cc) (λ last. last))

pub returns-in_ok-tick-in-Clock-clause-goes : goal.returns-in_ok-tick-in-Clock-clause-goes
returns-in_ok-tick-in-Clock-clause-goes c =
    let given : Option Fragment = slice_get c.args.left.now.items 0 in
    let line = c.args.line.now in
    let is : entry_of line given ≡ Tick line.number c.in-Clock.moment = ap (λ (a : Action). entry_for line.number line.lane a given) c.in-Clock.is in
    subst (λ (e : Entry). Goes c.args.cdm.now c.tick.new.self e) (sym is) (goes_now c.args.cdm.now c.args.cdm.now c.tick.new.self (Tick line.number c.in-Clock.moment) refl c.in_ok-tick-in-Clock.ensures.ok (λ w t i n k x. cc) (λ last. last))

pub returns-in-Ok-evict-clause-goes : goal.returns-in-Ok-evict-clause-goes
returns-in-Ok-evict-clause-goes c =
    let given : Option Fragment = slice_get c.args.left.now.items 0 in
    let line = c.args.line.now in
    let is : entry_of line given ≡ Evict line.number c.in-Evict.label = ap (λ (a : Action). entry_for line.number line.lane a given) c.in-Evict.is in
    let copy : Evict line.number c.in_ok-label-in-Evict.label ≡ entry_of line given = ap (λ (label : List ℕ). Evict line.number label) c.in_ok-label-in-Evict.ensures ∙ sym is in
    subst (λ (e : Entry). Goes c.args.cdm.now c.evict.new.self e) copy (goes_now c.args.cdm.now c.args.cdm.now c.evict.new.self (Evict line.number c.in_ok-label-in-Evict.label) refl c.in-Ok-evict.ensures.ok (λ w t i n k x. cc) (λ last. last))
