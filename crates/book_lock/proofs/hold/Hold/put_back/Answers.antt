use Rattle.std.proofs.Common.{rules, subst, sym, ◌∙◌}
use Rattle.book_lock.specs.Views.{Holds}
use Rattle.book_lock.proofs.Turns.{serves_at, gave_back, after_turn}
use Rattle.book_lock.proofs.hold.Hold.put_back.Goals as goal

pub fetch_add-requires : goal.fetch_add-requires
fetch_add-requires g c = let m = g.B.Book in let t = c.args.self.turn.turn in let v = c.args.self.turn.seat.me.0 in let b = c.args.self.book in let base = m.fixed c.args.self.turn.lock.now.table.shared.key.value in (
  search rules,
  search rules,
  serves_at m.entries m.fixed m.bound base _ _ _ v b (gave_back c.args.self.turn.seat.me _ b t.2 c.exchange-was.ensures.3) (subst Holds (sym t.1) tt) t.3
      (c.requires.same ∙ sym (after_turn v t.1)) c.requires.fixed,
)
