use Rattle.std.proofs.Common.{rules, refl}
use Rattle.book_lock.specs.Views.{counted}
use Rattle.book_lock.proofs.Turns.{counts_at, serves_at, gave_back, did}
use Rattle.book_lock.proofs.hold.Hold.put.Goals as goal

pub fetch_add-requires : goal.fetch_add-requires
fetch_add-requires g c = let m = g.B.Book in let t = c.args.self.turn.turn in let v = c.args.self.turn.seat.me.0 in let b = c.args.self.book in let e = c.requires.entry in let base = m.fixed c.args.self.turn.lock.now.table.shared.key.value in (
  search rules,
  search rules,
  counts_at m.entries m.fixed m.bound base _ _ _ v b e.0 (gave_back c.args.self.turn.seat.me _ b t.2 c.exchange-was.ensures.3) t.1 t.3 e.1 e.2,
)

pub fetch_add-requires-2 : goal.fetch_add-requires-2
fetch_add-requires-2 g c = let m = g.B.Book in let t = c.args.self.turn.turn in let v = c.args.self.turn.seat.me.0 in let b = c.args.self.book in let base = m.fixed c.args.self.turn.lock.now.table.shared.key.value in (
  search rules,
  search rules,
  serves_at m.entries m.fixed m.bound base _ _ _ (counted v (m.entries b)) b
      (did m.entries _ _ v b (gave_back c.args.self.turn.seat.me _ b t.2 c.exchange-was.ensures.3) c.fetch_add.ensures.2)
      tt t.3 refl c.requires.fixed,
)
