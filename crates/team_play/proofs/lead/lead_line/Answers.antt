use Rattle.std.proofs.Common.{◌≡◌, Option, slice_get, ap, sym}
use Rattle.eme_types.specs.declared.media.Fragment.{Fragment}
use Rattle.eme_types.specs.declared.entry.Entry.TheVariants.{Call, Tick, Feed, Evict}
use Rattle.script_lang.specs.declared.script.Action.{Action}
use Rattle.play_parts.specs.Asks.{entry_of, entry_for}
use Rattle.team_play.proofs.Added.{by_tick, just_one_if}
use Rattle.team_play.proofs.lead.lead_line.Goals as goal

pub returns-in-Ask-clause-goes : goal.returns-in-Ask-clause-goes
returns-in-Ask-clause-goes g c =
    let given : Option Fragment = slice_get c.args.left.now.items 0 in
    let line = c.args.line.now in
    let is : entry_of line given ≡ Call line.lane line.number c.in-Ask.call = ap (λ (a : Action). entry_for line.number line.lane a given) c.in-Ask.is in
    just_one_if _ (Call line.lane line.number c.in-Ask.call) (entry_of line given) _ _ _ _ (sym is) c.make_call.ensures.adds

pub returns-in-Feed-clause-goes : goal.returns-in-Feed-clause-goes
returns-in-Feed-clause-goes g c =
    let given : Option Fragment = slice_get c.args.left.now.items 0 in
    let line = c.args.line.now in
    let is : entry_of line given ≡ Feed line.number given = ap (λ (a : Action). entry_for line.number line.lane a given) c.in-Feed.is in
    just_one_if _ (Feed line.number given) (entry_of line given) _ _ _ _ (sym is) c.feed_next.ensures.adds

pub returns-in-Clock-clause-goes : goal.returns-in-Clock-clause-goes
returns-in-Clock-clause-goes g c =
    let given : Option Fragment = slice_get c.args.left.now.items 0 in
    let line = c.args.line.now in
    let is : entry_of line given ≡ Tick line.number c.in-Clock.moment = ap (λ (a : Action). entry_for line.number line.lane a given) c.in-Clock.is in
    just_one_if _ (Tick line.number c.in-Clock.moment) (entry_of line given) _ _ _ _ (sym is) (by_tick _ line.number c.in-Clock.moment _ _ _ _ _ c.tick.ensures.shared)

pub returns-in-Evict-clause-goes : goal.returns-in-Evict-clause-goes
returns-in-Evict-clause-goes g c =
    let given : Option Fragment = slice_get c.args.left.now.items 0 in
    let line = c.args.line.now in
    let is : entry_of line given ≡ Evict line.number c.in-Evict.label = ap (λ (a : Action). entry_for line.number line.lane a given) c.in-Evict.is in
    just_one_if _ (Evict line.number c.in-Evict.label) (entry_of line given) _ _ _ _ (sym is) c.evict_named.ensures.adds
