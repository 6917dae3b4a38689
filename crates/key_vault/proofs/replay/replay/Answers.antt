use Rattle.key_vault.proofs.Reading.{reads_on}
use Rattle.key_vault.proofs.replay.replay.Goals as goal

pub frames-preserved : goal.frames-preserved
frames-preserved c =
    reads_on c.args.bytes.now c.in-Some.behind.now c.frames.gate c.in-Some.first c.in_ok-count.count c.frames.records.items c.replay_frame.new.records.items
    c.frames.invariant c.in-Some.ensures c.if-first-ne1.false c.in_ok-count.ensures.next
