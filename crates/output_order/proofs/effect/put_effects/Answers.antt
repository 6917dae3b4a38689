use Rattle.output_order.specs.Log.{effect_line}
use Rattle.output_order.proofs.Puts.{put_piece}
use Rattle.output_order.proofs.effect.put_effects.Goals as goal

pub loop-effect-preserved : goal.loop-effect-preserved
loop-effect-preserved c =
    put_piece effect_line c.args.out.now c.loop-effect.out c.put_effect.new.out c.args.effects.now c.loop-effect.effect-index c.effect-item.result c.loop-effect-test.true c.effect-item.is c.loop-effect.invariant c.in_ok-put_effect.ensures
