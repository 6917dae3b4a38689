-- What a clause says of a lock, of its passes and of its holds.
use Rattle.std.specs.Prelude.{◌≡◌, ℕ, ◌^◌, List, [], ◌∷◌}
use Rattle.book_lock.specs.declared.book.Book.{Ghosts}
use Rattle.book_lock.specs.declared.lock.BookLock.{BookLock}
use Rattle.book_lock.specs.declared.pass.Pass.{Pass}
use Rattle.book_lock.specs.declared.hold.Hold.{Hold}

module _ {B E : Type 0} where
  -- the book as it was given to `new`
  abbrev pub first_book : BookLock B E → B
  first_book lock = lock.table.shared.key.value

  abbrev pub IsHoldOf : BookLock B E → Hold B E → Type 0
  IsHoldOf lock hold = hold.turn.lock.now ≡ lock

  -- the list of the book as it was taken
  abbrev pub taken : Hold B E → List E
  taken hold = hold.turn.seat.me.0.taken

  -- the places and the parts of the pass that was given to `take`
  abbrev pub hold_own : Hold B E → List ℕ
  hold_own hold = hold.turn.seat.me.0.own

  abbrev pub hold_parts : Hold B E → ℕ
  hold_parts hold = hold.turn.seat.me.0.parts

  -- the fixed part that the book must have when it is put back
  abbrev pub hold_fixed : (B → List ℕ) → Hold B E → List ℕ
  hold_fixed fixed hold = fixed (first_book hold.turn.lock.now)

module _ {B E : Type 0} {g : Ghosts B E} where
  -- the list that the pass has seen
  abbrev pub seen : Pass B E g → List E
  seen pass = pass.seat.me.0.seen

  -- the places that the pass owns. Those above 0 are the places of its own entries, which count from 1
  abbrev pub own : Pass B E g → List ℕ
  own pass = pass.seat.me.0.own

  abbrev pub parts : Pass B E g → ℕ
  parts pass = pass.seat.me.0.parts

  abbrev pub fixed_of : Pass B E g → List ℕ
  fixed_of pass = pass.seat.me.0.fixed

  -- the lock made the pass, which has the fixed part of the lock's first book
  abbrev pub IsPassOf : BookLock B E → Pass B E g → Type 0
  IsPassOf lock pass = (pass.seat.table_id ≡ lock.table.shared.table_id) × (fixed_of pass ≡ g.fixed (first_book lock))

  -- a lock as it is made, and the pass that has all parts and owns place 0
  abbrev pub IsNew : B → BookLock B E → Pass B E g → Type 0
  IsNew book lock pass = IsPassOf lock pass × (first_book lock ≡ book) × (fixed_of pass ≡ g.fixed book) × (seen pass ≡ []) × (own pass ≡ 0 ∷ []) × (parts pass ≡ 2 ^ 32)
