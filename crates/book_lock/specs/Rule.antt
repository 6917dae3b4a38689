-- The rule of the lock: its four parts, over one current list.
use Rattle.std.specs.Prelude.{ℕ, List, Option}
use mathlib.Core.Option as maybe
use Rattle.atomic_table.specs.Table.{State}
use Rattle.book_lock.specs.declared.view.View.{View}
use Rattle.book_lock.specs.Tickets.{Tickets}
use Rattle.book_lock.specs.Lists.{Listed}
use Rattle.book_lock.specs.Places.{Owned}
use Rattle.book_lock.specs.Parts.{Parted}

pub record Rule {B E : Type 0} (entries : B → List E) (fixed : B → List ℕ) (bound : E → maybe.Option ℕ) (base : List ℕ) (s : State (Option B) (View E)) : Type 0 where
  pub tickets : Tickets s
  pub current : List E
  pub listed : Listed entries current s
  pub owned : Owned bound current s.views
  pub parted : Parted fixed base s
