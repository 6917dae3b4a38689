use Rattle.std.proofs.Common.{◌≡◌, ◌++◌, take}
use Rattle.std.specs.List.{flat_map}
use Rattle.output_order.specs.Summary.{summary_head, track_line}
use Rattle.output_order.proofs.summary.summary_text.Given as goal

-- the head and the lines of the tracks so far
abbrev pub invariant-loop-track : goal.invariant-loop-track
invariant-loop-track l = l.out ≡ summary_head l.cdm.tracks l.cdm.history ++ flat_map (track_line l.cdm.tracks l.cdm.history) (take l.track-index l.track-items)
