use Rattle.std.proofs.Common.{ℕ, List, ◌++◌, ap, ◌∙◌}
use Rattle.player_core.specs.Inspect.{init_line}
use Rattle.output_order.proofs.Puts.{put_piece}
use Rattle.player_core.proofs.inspect.put_inits.Goals as goal

pub loop-init-preserved : goal.loop-init-preserved
loop-init-preserved c =
    put_piece (init_line c.args.number) c.args.out.now c.loop-init.out c.extend_from_slice.new.self c.args.inits.now c.loop-init.init-index c.init-item.result c.loop-init-test.true c.init-item.is c.loop-init.invariant
    (c.in_ok-extend_from_slice.ensures.ok ∙ ap (λ (x : List ℕ). c.loop-init.out ++ x) (c.as_bytes.ensures.value ∙ c.in_ok-line.ensures))
