use Rattle.std.proofs.Common.{rules, ap, sym, ◌∙◌, ◌∷◌, Some}
use Rattle.atomic_table.specs.Table.{rest}
use Rattle.book_lock.proofs.Turns.{draws, looks, took_from}
use Rattle.book_lock.proofs.lock.BookLock.take.Goals as goal

pub fetch_add-ticket-requires : goal.fetch_add-ticket-requires
fetch_add-ticket-requires g c = let m = g.B.Book in (search rules, search rules, draws m.entries m.fixed m.bound _ _ _ _ (search rules) (search rules))

pub load-serving-requires : goal.load-serving-requires
load-serving-requires g c = let m = g.B.Book in (search rules, search rules, looks m.entries m.fixed m.bound _ _ _ _ (search rules) (search rules))

pub exchange-slot-requires : goal.exchange-slot-requires
exchange-slot-requires g c = let m = g.B.Book in
    let t = took_from m.entries m.fixed m.bound c.loop.seat.me c.load-serving.new.seat.me c.args.pass.seat.me.0 _ c.load-serving.result c.loop.invariant.1 c.load-serving.ensures.2 (c.if-serving-ticket.true ∙ sym c.loop.invariant.2) in (
      search rules,
      (Some t.0, ap (λ x. x.1) t.1 ∙ ap (λ x. (0, Some t.0) ∷ rest x.1) (sym t.1)),
    )

pub returns-then-serving-ticket-clause-once : goal.returns-then-serving-ticket-clause-once
returns-then-serving-ticket-clause-once g c = (let m = g.B.Book in took_from m.entries m.fixed m.bound c.loop.seat.me c.load-serving.new.seat.me c.args.pass.seat.me.0 _ c.load-serving.result c.loop.invariant.1 c.load-serving.ensures.2 (c.if-serving-ticket.true ∙ sym c.loop.invariant.2)).2.once

pub returns-then-serving-ticket-clause-below : goal.returns-then-serving-ticket-clause-below
returns-then-serving-ticket-clause-below g c = (let m = g.B.Book in took_from m.entries m.fixed m.bound c.loop.seat.me c.load-serving.new.seat.me c.args.pass.seat.me.0 _ c.load-serving.result c.loop.invariant.1 c.load-serving.ensures.2 (c.if-serving-ticket.true ∙ sym c.loop.invariant.2)).2.below
