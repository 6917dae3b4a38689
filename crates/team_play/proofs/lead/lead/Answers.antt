use Rattle.std.proofs.Common.{◌≡◌, List, Some, length, slice_get, refl, ap, ◌∙◌, sym}
use Rattle.std.proofs.lemmas.Option.{slice_get_read}
use Rattle.script_lang.specs.declared.script.Line.{Line}
use Rattle.team_play.proofs.Runs.{may_lead, leads_line, leads_other}
use Rattle.team_play.proofs.lead.lead.Goals.{then-line-eq0+in-Ok, else-line-eq0}
use Rattle.team_play.proofs.lead.lead.Goals as goal

pub lead_line-next-requires-clause-may : goal.lead_line-next-requires-clause-may
lead_line-next-requires-clause-may g c =
    let items : List Line = c.as_slice-line-items.result.now in
    let line : Line = c.line-item.result in
    let here : slice_get items c.loop-line.line-index ≡ Some line = slice_get_read items (length items) c.loop-line.line-index line refl c.loop-line-test.true c.line-item.is in
    let at : slice_get c.args.script.now c.loop-line.line-index ≡ Some line = ap (λ (ls : List Line). slice_get ls c.loop-line.line-index) (sym c.as_slice-line-items.ensures.value) ∙ here in
    may_lead c.args.shared.now c.args.script.now c.loop-line.line-index line c.requires.media.0 c.args.left.items c.loop-line.left.items c.args.pass c.loop-line.pass c.as_slice-line-items.ensures.script at c.requires.media.1 c.requires.media.2 c.requires.media.3 c.loop-line.invariant

pub loop-line-preserved : goal.loop-line-preserved
loop-line-preserved g c =
    let items : List Line = c.as_slice-line-items.result.now in
    let line : Line = c.line-item.result in
    let here : slice_get items c.loop-line.line-index ≡ Some line = slice_get_read items (length items) c.loop-line.line-index line refl c.loop-line-test.true c.line-item.is in
    let at : slice_get c.args.script.now c.loop-line.line-index ≡ Some line = ap (λ (ls : List Line). slice_get ls c.loop-line.line-index) (sym c.as_slice-line-items.ensures.value) ∙ here in
    elim c.if-line-eq0.branch [
      | then-line-eq0+in-Ok w ↦ rw (w.pass-is, w.left-is) (leads_line c.args.shared.now c.args.script.now c.loop-line.line-index line c.args.left.items c.loop-line.left.items _ c.args.pass c.loop-line.pass _ c.as_slice-line-items.ensures.script at w.if-line-eq0.true c.loop-line.invariant w.lead_line-next.ensures.kept (rw w.in-Ok.is at w.lead_line-next.ensures.goes) (rw w.in-Ok.is at w.lead_line-next.ensures.left))
      | else-line-eq0 w ↦ rw (w.pass-is, w.left-is) (leads_other c.args.shared.now c.args.script.now c.loop-line.line-index line c.args.left.items c.loop-line.left.items c.args.pass c.loop-line.pass c.as_slice-line-items.ensures.script at w.if-line-eq0.false c.loop-line.invariant)
    ]
