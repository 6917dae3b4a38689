use Rattle.std.proofs.Common.{ℕ, List, ◌++◌, ap, ◌∙◌}
use Rattle.output_order.specs.Log.{status_words}
use Rattle.output_order.proofs.Puts.{put_piece}
use Rattle.output_order.proofs.effect.put_statuses.Goals as goal

pub loop-kid-preserved : goal.loop-kid-preserved
loop-kid-preserved c =
    put_piece status_words c.args.out.now c.loop-kid.out c.extend_from_slice.new.self c.args.list.now c.loop-kid.kid-index c.loop-kid-item.result c.loop-kid-test.true c.loop-kid-item.is c.loop-kid.invariant
    (c.in_ok-extend_from_slice.ensures.ok ∙ ap (λ (x : List ℕ). c.loop-kid.out ++ x) (c.as_bytes.ensures.value ∙ c.in_ok-words.ensures))
