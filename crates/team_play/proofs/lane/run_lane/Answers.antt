use Rattle.std.proofs.Common.{◌≡◌, List, Some, length, slice_get, refl, ap, ◌∙◌, sym}
use Rattle.std.proofs.lemmas.Option.{slice_get_read}
use Rattle.script_lang.specs.declared.script.Line.{Line}
use Rattle.team_play.proofs.Runs.{calls_line, calls_other}
use Rattle.team_play.proofs.lane.run_lane.Goals.{then-line-lane+in-Ask+in-Ok, else-line-lane}
use Rattle.team_play.proofs.lane.run_lane.Goals as goal

pub loop-line-preserved : goal.loop-line-preserved
loop-line-preserved g c =
    let items : List Line = c.as_slice-line-items.result.now in
    let line : Line = c.line-item.result in
    let here : slice_get items c.loop-line.line-index ≡ Some line = slice_get_read items (length items) c.loop-line.line-index line refl c.loop-line-test.true c.line-item.is in
    let at : slice_get c.args.script.now c.loop-line.line-index ≡ Some line = ap (λ (ls : List Line). slice_get ls c.loop-line.line-index) (sym c.as_slice-line-items.ensures.value) ∙ here in
    elim c.if-line-lane.branch [
      | then-line-lane+in-Ask+in-Ok w ↦ rw w.pass-is (calls_line c.args.shared.now c.args.script.now c.args.lane c.loop-line.line-index line _ c.args.pass c.loop-line.pass _ c.as_slice-line-items.ensures.script at w.if-line-lane.true w.in-Ask.is c.loop-line.invariant w.make_call-next.ensures.kept (rw w.in-Ok.is at w.make_call-next.ensures.adds))
      | else-line-lane w ↦ rw w.pass-is (calls_other c.args.shared.now c.args.script.now c.args.lane c.loop-line.line-index line c.args.pass c.loop-line.pass at w.if-line-lane.false c.loop-line.invariant)
    ]
