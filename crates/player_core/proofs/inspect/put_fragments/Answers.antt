use Rattle.player_core.proofs.Inspects.{put_fragment_lines}
use Rattle.player_core.proofs.inspect.put_fragments.Goals as goal

pub loop-i-preserved : goal.loop-i-preserved
loop-i-preserved c =
    put_fragment_lines c.args.out.now c.loop-i.out c.put_fragment.new.out c.args.fragments.now c.loop-i.i c.index-fragments-i.result c.loop-i-test.true c.index-fragments-i.is c.loop-i.invariant c.in_ok-put_fragment.ensures
