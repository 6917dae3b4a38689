use Rattle.key_sessions.proofs.EndedKeys.{ended_whole, are_ended}
use Rattle.key_sessions.proofs.ended.ended.Goals as goal

pub returns : goal.returns
returns c =
    let x = c.args in
    let all = ended_whole x.number c.as_slice-known-items.result.now x.old.now.keys x.was_usable x.new.now.keys x.usable c.loop-known.known-index c.loop-known.list.items c.loop-known-test.false c.as_slice-known-items.ensures.value c.loop-known.invariant in
    rw all (are_ended x.number x.old.now.keys x.was_usable x.new.now.keys x.usable c.as_slice-known-items.ensures.once)
