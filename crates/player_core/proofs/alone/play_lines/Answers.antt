use Rattle.std.proofs.Common.{◌≡◌, ◌+◌, List, Some, length, slice_get, refl, ap, ◌∙◌, sym, subst}
use Rattle.std.proofs.lemmas.Option.{slice_get_read}
use Rattle.eme_types.specs.declared.media.Fragment.{Fragment}
use Rattle.script_lang.specs.declared.script.Line.{Line}
use Rattle.player_core.specs.Course.{HasGone}
use Rattle.player_core.proofs.Courses.{may_go, gone_more}
use Rattle.player_core.proofs.alone.play_lines.Goals as goal

pub play_line-requires : goal.play_line-requires
play_line-requires c =
    let items : List Line = c.as_slice-line-items.result.now in
    let line : Line = c.line-item.result in
    let here : slice_get items c.loop-line.line-index ≡ Some line = slice_get_read items (length items) c.loop-line.line-index line refl c.loop-line-test.true c.line-item.is in
    let at : slice_get c.args.script.now c.loop-line.line-index ≡ Some line = ap (λ ls. slice_get ls c.loop-line.line-index) (sym c.as_slice-line-items.ensures.value) ∙ here in
    may_go c.args.script.now c.requires.0 c.loop-line.line-index c.loop-line.left.items c.loop-line.cdm line c.moment_is_of_the_last_tick.ensures c.as_slice-line-items.ensures.script at (c.loop-line.invariant c.requires.0 c.requires.1)

pub loop-line-preserved : goal.loop-line-preserved
loop-line-preserved c media begun =
    let items : List Line = c.as_slice-line-items.result.now in
    let line : Line = c.line-item.result in
    let here : slice_get items c.loop-line.line-index ≡ Some line = slice_get_read items (length items) c.loop-line.line-index line refl c.loop-line-test.true c.line-item.is in
    let at : slice_get c.args.script.now c.loop-line.line-index ≡ Some line = ap (λ ls. slice_get ls c.loop-line.line-index) (sym c.as_slice-line-items.ensures.value) ∙ here in
    subst (λ (left : List Fragment). HasGone c.args.script.now media (c.loop-line.line-index + 1) left c.play_line.new.cdm) (sym c.in_ok-play_line.ensures.left) (gone_more c.args.script.now media c.loop-line.line-index c.loop-line.left.items c.loop-line.cdm c.play_line.new.cdm line c.as_slice-line-items.ensures.script at c.in_ok-play_line.ensures.goes (c.loop-line.invariant media begun))
