use Rattle.key_statuses.specs.Statuses.{held_status}
use Rattle.key_statuses.proofs.Sorted.{sorted_result, members_result}
use Rattle.key_statuses.proofs.table.KeyTable.statuses.Goals as goal

pub returns-clause-sorted : goal.returns-clause-sorted
returns-clause-sorted c = sorted_result c.statuses_of.result c.self.inside.known.items c.held_status-held.result (rw c.as_slice.ensures.value at c.statuses_of.ensures) c.self.invariant

pub returns-clause-members : goal.returns-clause-members
returns-clause-members c =
    rw (← c.self.view_is)
    (members_result c.statuses_of.result c.self.inside.known.items (held_status c.args.from c.args.expiration c.args.moment) (rw (c.as_slice.ensures.value, c.held_status-held.ensures) at c.statuses_of.ensures))
