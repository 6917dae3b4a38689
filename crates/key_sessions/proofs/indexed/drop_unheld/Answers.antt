use Rattle.key_statuses.specs.Index.{without_number}
use Rattle.key_sessions.specs.Indexed.{is_unheld}
use Rattle.key_sessions.proofs.Placed.{without_twice}
use Rattle.key_sessions.proofs.Following.{changes_more}
use Rattle.key_sessions.proofs.indexed.drop_unheld.Goals as goal

pub loop-known-preserved : goal.loop-known-preserved
loop-known-preserved c = changes_more (is_unheld c.args.table.now.keys) (without_number c.args.number) c.args.keys.now c.loop-known.known-index c.known-item.result c.args.index.now c.loop-known.index c.drop_known.new.index (without_twice c.args.number) c.loop-known-test.true c.known-item.is c.loop-known.invariant c.drop_known.ensures
