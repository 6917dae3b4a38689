use Rattle.std.proofs.Common.{take}
use Rattle.key_statuses.specs.Index.{with_number}
use Rattle.key_sessions.specs.Indexed.{ChangesWhere, is_held}
use Rattle.key_sessions.proofs.indexed.add_held.Given as goal

abbrev pub invariant-loop-known : goal.invariant-loop-known
invariant-loop-known l = ChangesWhere is_held (with_number l.number) (take l.known-index l.keys) l.fn.index l.index
