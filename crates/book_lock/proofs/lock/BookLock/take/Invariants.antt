use Rattle.std.proofs.Common.{◌≡◌, ◌%◌, ◌^◌, []}
use Rattle.book_lock.specs.Views.{waiting}
use Rattle.book_lock.proofs.lock.BookLock.take.Given as goal

abbrev pub invariant-loop : goal.invariant-loop
invariant-loop g l = (l.seat.table_id ≡ l.self.table.shared.table_id) × (l.seat.me ≡ (waiting l.fn.pass.seat.me.0 l.seat.me.0.ticket, [])) × (l.seat.me.0.ticket % 2 ^ 64 ≡ l.ticket)
