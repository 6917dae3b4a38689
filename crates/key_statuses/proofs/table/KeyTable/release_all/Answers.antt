use Rattle.std.proofs.Common.{◌≡◌, ◌<◌, ◌≤◌, ◌++◌, length, map, take, drop, ap, arith}
use Rattle.key_statuses.specs.Table.{released}
use Rattle.key_statuses.proofs.Tables.{map_more, map_all}
use Rattle.key_statuses.proofs.Once.{released_once}
use Rattle.key_statuses.proofs.table.KeyTable.release_all.Goals as goal

pub loop-known-preserved : goal.loop-known-preserved
loop-known-preserved c =
    let lt : c.loop-known.known-index < length c.args.self.now.keys = rw (← c.self.view_is) (rw c.deref_mut-known-items.ensures.value at c.loop-known-test.true) in
    map_more released c.args.self.now.keys c.loop-known.known-items c.loop-known.known-index c.known-item.result lt c.loop-known.invariant

pub invariant_of-self : goal.invariant_of-self
invariant_of-self c =
    let so_far : c.loop-known.known-items ≡ map released (take c.loop-known.known-index c.self.inside.known.items) ++ drop c.loop-known.known-index c.self.inside.known.items = rw (← c.self.view_is) at c.loop-known.invariant in
    let end : length c.self.inside.known.items ≤ c.loop-known.known-index = rw c.deref_mut-known-items.ensures.value at c.loop-known-test.false in
    let whole : length c.self.inside.known.items ≤ c.self.inside.known.len = omega (arith, ap length c.deref_mut-known-items.ensures.value, c.deref_mut-known-items.ensures.len) in
    rw (map_all released c.self.inside.known.items c.loop-known.known-items c.loop-known.known-index c.self.inside.known.len so_far end whole) (released_once c.self.inside.known.items c.self.invariant)
