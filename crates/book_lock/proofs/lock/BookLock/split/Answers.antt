use Rattle.std.proofs.Common.{rules}
use Rattle.book_lock.proofs.Parting.{splits}
use Rattle.book_lock.proofs.lock.BookLock.split.Goals as goal

pub split_seat-seat-requires : goal.split_seat-seat-requires
split_seat-seat-requires g c = let m = g.B.Book in (search rules, search rules, splits m.entries m.fixed m.bound _ _ _ c.args.pass.now.idle.0 c.requires.parts)
