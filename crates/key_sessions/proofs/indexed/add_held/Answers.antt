use Rattle.key_statuses.specs.Index.{with_number}
use Rattle.key_sessions.specs.Indexed.{is_held}
use Rattle.key_sessions.proofs.Placed.{with_twice}
use Rattle.key_sessions.proofs.Following.{changes_more}
use Rattle.key_sessions.proofs.indexed.add_held.Goals as goal

pub loop-known-preserved : goal.loop-known-preserved
loop-known-preserved c = changes_more is_held (with_number c.args.number) c.args.keys.now c.loop-known.known-index c.known-item.result c.args.index.now c.loop-known.index c.add_known.new.index (with_twice c.args.number) c.loop-known-test.true c.known-item.is c.loop-known.invariant c.in_ok-add_known.ensures.ok
