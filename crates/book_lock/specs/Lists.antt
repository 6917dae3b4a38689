-- The rule, second part: the one current list, of which each seat has seen a beginning.
-- Word 2 is the number of entries, as a remainder.
use Rattle.std.specs.Prelude.{◌≡◌, ℕ, ◌%◌, ◌^◌, List, [], ◌∷◌, length, slice_index, Option, Some}
use mathlib.Core.Option.{some}
use mathlib.Core.List.{IsPrefix}
use lib.ListN.{get_elem?}
use Rattle.atomic_table.specs.Table.{State}
use Rattle.book_lock.specs.declared.view.Phase.TheVariants.{Turn, Counted}
use Rattle.book_lock.specs.declared.view.View.{View}

-- who has the turn took the current list, or has just made it one entry longer
pub record Saw {E : Type 0} (current : List E) (v : View E) : Type 0 where
  pub seen : IsPrefix v.seen current
  pub told : IsPrefix v.told current
  pub in_turn : v.phase ≡ Turn → v.taken ≡ current
  pub just_counted : v.phase ≡ Counted → v.seen ≡ current

pub record Listed {B E : Type 0} (entries : B → List E) (current : List E) (s : State (Option B) (View E)) : Type 0 where
  pub count_word : slice_index s.words 2 ≡ length current % 2 ^ 64
  pub at_home : (b : B) → s.homes ≡ some (Some b) ∷ [] → entries b ≡ current
  pub each : (i : ℕ) (v : View E) → get_elem? s.views i ≡ some v → Saw current v
