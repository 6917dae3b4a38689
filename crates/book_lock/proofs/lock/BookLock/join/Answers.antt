use Rattle.std.proofs.Common.{rules, ap, ◌∙◌}
use Rattle.book_lock.proofs.Parting.{joins, learns, once_after}
use Rattle.book_lock.proofs.lock.BookLock.join.Goals as goal

pub join_seat-requires : goal.join_seat-requires
join_seat-requires g c = let m = g.B.Book in (
  search rules,
  search rules,
  search rules,
  search rules,
  joins m.entries m.fixed m.bound _ _ _ c.args.pass.now.seat.me.0 _ c.args.pass.now.idle.0 (ap (λ x. x.0.phase) c.into_seat-seat.ensures.2 ∙ c.args.other.idle.0) c.args.pass.now.idle.2,
)

pub load-requires : goal.load-requires
load-requires g c = let m = g.B.Book in (search rules, search rules, learns m.entries m.fixed m.bound _ _ _ _)

pub returns-clause-once : goal.returns-clause-once
returns-clause-once g c = once_after _ _ c.load.ensures.2
