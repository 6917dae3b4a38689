-- The rule, first part: tickets, turns and the slot.
-- Word 0 is the next ticket and word 1 the one that is served, each as a remainder. Slot 0 has the book.
use Rattle.std.specs.Prelude.{◌≡◌, ℕ, ◌+◌, ◌%◌, ◌^◌, ◌<◌, ◌≤◌, ◌⊎◌, List, [], ◌∷◌, length, slice_index, sum_by, Option, Some}
use mathlib.Core.Option.{none, some}
use mathlib.Core.Option as maybe
use lib.ListN.{get_elem?}
use Rattle.atomic_table.specs.Table.{State}
use Rattle.book_lock.specs.declared.view.Phase.{Phase}
use Rattle.book_lock.specs.declared.view.Phase.TheVariants.{Idle, Waiting, Turn, Counted}
use Rattle.book_lock.specs.declared.view.View.{View}
use Rattle.book_lock.specs.Views.{Holds, is_out, parts_of}

-- a ticket that is out lies from the served one on and below the next; who has the turn is served
abbrev pub FitsAt : ℕ → ℕ → ℕ → Phase → Type 0
FitsAt served next ticket Idle = Unit {0}
FitsAt served next ticket Waiting = (served ≤ ticket) × (ticket < next)
FitsAt served next ticket Turn = (ticket ≡ served) × (ticket < next)
FitsAt served next ticket Counted = (ticket ≡ served) × (ticket < next)

module _ {B E : Type 0} where
  -- the book is at home, and no seat has the turn; or it is out, and a seat has the turn
  abbrev pub Slot : List (maybe.Option (Option B)) → List (View E) → Type 0
  Slot homes views =
      ((b : B) × (homes ≡ some (Some b) ∷ []) × ((i : ℕ) (v : View E) → get_elem? views i ≡ some v → Holds v.phase → ⊥))
      ⊎ ((homes ≡ none ∷ []) × ((i : ℕ) × (v : View E) × (get_elem? views i ≡ some v) × Holds v.phase))

  -- tickets out are distinct, and lie from the served one on. Each seat that has one has a part, so fewer than 2^64 are out
  pub record Tickets (s : State (Option B) (View E)) : Type 0 where
    pub next : ℕ
    pub served : ℕ
    pub wide : length s.words ≡ 3
    pub ticket_word : slice_index s.words 0 ≡ next % 2 ^ 64
    pub serving_word : slice_index s.words 1 ≡ served % 2 ^ 64
    pub drawn : next ≡ served + sum_by is_out s.views
    pub parts : sum_by parts_of s.views ≡ 2 ^ 32
    pub has_part : (i : ℕ) (v : View E) → get_elem? s.views i ≡ some v → is_out v ≤ v.parts
    pub each : (i : ℕ) (v : View E) → get_elem? s.views i ≡ some v → FitsAt served next v.ticket v.phase
    pub apart : (i j : ℕ) (v w : View E) → get_elem? s.views i ≡ some v → get_elem? s.views j ≡ some w → is_out v ≡ 1 → is_out w ≡ 1 → v.ticket ≡ w.ticket → i ≡ j
    pub slot : Slot s.homes s.views
