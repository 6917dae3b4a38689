use Rattle.std.proofs.Common.{ℕ, List, ◌++◌, ap, ◌∙◌}
use Rattle.player_core.specs.Inspect.{part_line}
use Rattle.output_order.proofs.Puts.{put_piece}
use Rattle.player_core.proofs.inspect.put_parts.Goals as goal

pub loop-part-preserved : goal.loop-part-preserved
loop-part-preserved c =
    put_piece (part_line c.args.number) c.args.out.now c.loop-part.out c.extend_from_slice.new.self c.args.parts.now c.loop-part.part-index c.part-item.result c.loop-part-test.true c.part-item.is c.loop-part.invariant
    (c.in_ok-extend_from_slice.ensures.ok ∙ ap (λ (x : List ℕ). c.loop-part.out ++ x) (c.as_bytes.ensures.value ∙ c.in_ok-line.ensures))
