use Rattle.std.proofs.Common.{rules, subst, ◌≡◌, List, ◌∷◌, ◌++◌, [], Option, Some, sym, ap, ◌∙◌}
use Rattle.atomic_table.specs.Table.{opening}
use Rattle.book_lock.specs.Views.{opened}
use Rattle.book_lock.specs.Rule.{Rule}
use Rattle.book_lock.proofs.Turns.{opens}
use Rattle.book_lock.proofs.lock.BookLock.new_at.Goals as goal

pub new-requires : goal.new-requires
new-requires g c = let m = g.B.Book in let book = c.args.book in let ticket = c.args.ticket in
    let slots : c.push_reserved.new.self.items ≡ Some book ∷ [] = c.push_reserved.ensures.items ∙ ap (λ (xs : List (Option g.row.B.Denot)). xs ++ Some book ∷ []) c.in-Ok.ensures.items in
    subst (λ (x : List (Option g.row.B.Denot) × g.row.B.Denot). Rule {B = g.row.B.Denot} {E = g.row.B-Entry.Denot} m.entries m.fixed m.bound (m.fixed x.1) (opening (ticket ∷ ticket ∷ 0 ∷ []) x.0 (opened (m.fixed x.1))))
    (λ i. (sym slots i, sym c.of-about.ensures i))
    (opens m.entries m.fixed m.bound ticket book (search rules) c.requires)
