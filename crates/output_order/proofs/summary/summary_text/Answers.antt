use Rattle.std.proofs.Common.{ℕ, List, ◌++◌, ap, ◌∙◌}
use Rattle.std.specs.List.{flat_map}
use Rattle.std.proofs.lemmas.List.{take_all}
use Rattle.output_order.specs.Summary.{summary_head, track_line, summary_of}
use Rattle.output_order.proofs.summary.summary_text.Goals as goal

pub returns : goal.returns
unfolding summary_of
returns c =
    let head : List ℕ = summary_head c.args.cdm.now.tracks c.args.cdm.now.history in
    c.loop-track.invariant ∙ ap (λ ids. head ++ flat_map (track_line c.args.cdm.now.tracks c.args.cdm.now.history) ids) (take_all c.loop-track.track-index c.as_slice-track-items.result.now c.loop-track-test.false ∙ (c.as_slice-track-items.ensures ∙ c.tracks.ensures))
