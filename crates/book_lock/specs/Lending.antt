-- The book of a hold, lent to the caller.
use Rattle.std.specs.Prelude.{[]}
use Rattle.std.specs.Borrow.{Lends, MutBor, Fml, RattleType}
use mir.Syntax.{named}
use Rattle.book_lock.specs.declared.book.Book.{Ghosts}
use Rattle.book_lock.specs.declared.hold.Hold.{Hold}
use Rattle.book_lock.specs.contracts.hold.Hold.{the_row}

module _ (B E : RattleType) (g : Ghosts B.Denot E.Denot) where
  -- once the borrow ends, the hold has the book that the borrow shows last. Its lifetime is the second of the signature
  abbrev pub lends_book : MutBor (Hold B.Denot E.Denot) → MutBor B.Denot → Fml
  lends_book hold book = Lends (the_row (record { mir = named 1; lft = [] }) B E g) B hold book (λ b. record hold.now { book = b })
