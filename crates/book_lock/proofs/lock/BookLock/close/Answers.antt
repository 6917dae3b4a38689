use Rattle.book_lock.proofs.Closing.{closes_with, closes_full}
use Rattle.book_lock.proofs.lock.BookLock.close.Goals as goal

pub unreachable-requires : goal.unreachable-requires
unreachable-requires g c = let m = g.B.Book in closes_full m.entries m.fixed m.bound _ _ _ c.args.pass.seat.me _ _ _ c.into_seat-seat.ensures.2 c.args.pass.idle.0 c.requires.parts c.close_with-closed.ensures.values.2 c.take-slot.ensures.value c.in_default.is

pub returns-clause-list : goal.returns-clause-list
returns-clause-list g c = let m = g.B.Book in (closes_with m.entries m.fixed m.bound _ _ _ c.args.pass.seat.me _ _ _ c.in-Some.book c.into_seat-seat.ensures.2 c.args.pass.idle.0 c.requires.parts c.close_with-closed.ensures.values.2 c.take-slot.ensures.value c.in-Some.is).0

pub returns-clause-fixed : goal.returns-clause-fixed
returns-clause-fixed g c = let m = g.B.Book in (closes_with m.entries m.fixed m.bound _ _ _ c.args.pass.seat.me _ _ _ c.in-Some.book c.into_seat-seat.ensures.2 c.args.pass.idle.0 c.requires.parts c.close_with-closed.ensures.values.2 c.take-slot.ensures.value c.in-Some.is).1

pub returns-clause-own : goal.returns-clause-own
returns-clause-own g c = let m = g.B.Book in (closes_with m.entries m.fixed m.bound _ _ _ c.args.pass.seat.me _ _ _ c.in-Some.book c.into_seat-seat.ensures.2 c.args.pass.idle.0 c.requires.parts c.close_with-closed.ensures.values.2 c.take-slot.ensures.value c.in-Some.is).2
