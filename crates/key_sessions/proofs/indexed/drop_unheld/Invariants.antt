use Rattle.std.proofs.Common.{take}
use Rattle.key_statuses.specs.Index.{without_number}
use Rattle.key_sessions.specs.Indexed.{ChangesWhere, is_unheld}
use Rattle.key_sessions.proofs.indexed.drop_unheld.Given as goal

abbrev pub invariant-loop-known : goal.invariant-loop-known
invariant-loop-known l = ChangesWhere (is_unheld l.table.keys) (without_number l.number) (take l.known-index l.keys) l.fn.index l.index
