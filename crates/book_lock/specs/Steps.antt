-- What each step tells its caller.
use Rattle.std.specs.Prelude.{◌≡◌, ℕ, ◌%◌, ◌^◌, ◌<◌, ◌≤◌, ◌==◌, List, [], ◌∷◌, length, Option, Some, MatchBool}
use mathlib.Core.Option as maybe
use mathlib.Core.List.{IsPrefix}
use Rattle.atomic_table.specs.Table.{Me, Step, rest}
use Rattle.book_lock.specs.declared.view.View.{View}
use Rattle.book_lock.specs.Views.{waiting, turn, counted, idle}
use Rattle.book_lock.specs.Places.{times, Closed, Below}

-- the view of a seat, and the slots that are out with it
abbrev pub Stand : Type 0 → Type 0 → Type 0
Stand B E = Me (Option B) (View E)

-- of the step, the seat before, the number found and the seat after
abbrev pub Tells : Type 0 → Type 0 → Type 1
Tells B E = Step (Option B) → Stand B E → ℕ → Stand B E → Type 0

-- what the rule says of a seat's own view
pub record IsLearned {E : Type 0} (v : View E) : Type 0 where
  pub told : length v.told ≤ length v.seen → IsPrefix v.told v.seen
  pub once : (p : ℕ) → times p v.own ≤ 1

-- what a seat knows of the book that it took
pub record IsTaken {B E : Type 0} (entries : B → List E) (fixed : B → List ℕ) (bound : E → maybe.Option ℕ) (v : View E) (b : B) : Type 0 where
  pub later : IsPrefix v.seen (entries b)
  pub same : fixed b ≡ v.fixed
  pub once : (p : ℕ) → times p v.own ≤ 1
  pub below : (p : ℕ) → 0 < times p v.own → p ≤ length v.seen
  pub closed : Closed bound v.own (entries b)
  pub earlier : Below bound (entries b)

-- the ticket t was drawn, of which the word shows the remainder
abbrev pub drew : {B E : Type 0} → Tells B E
drew step before found after = (t : ℕ) × (t % 2 ^ 64 ≡ found) × (after ≡ (waiting before.0 t, before.1))

-- the turn has come, and the book was taken; or it has not
abbrev pub looked : {B E : Type 0} → (B → List E) → (B → List ℕ) → (E → maybe.Option ℕ) → Tells B E
looked {B} entries fixed bound step before found after =
    MatchBool (found == before.0.ticket % 2 ^ 64)
    ((b : B) × (after ≡ (turn before.0 (entries b), (0, Some b) ∷ before.1)) × IsTaken entries fixed bound before.0 b)
    (after ≡ before)

-- the list of the book that lies ready to go home is counted as the current one
abbrev pub did_count : {B E : Type 0} → (B → List E) → Tells B E
did_count {B} entries step before found after = (b : B) → before.1 ≡ (0, Some b) ∷ [] → after ≡ (counted before.0 (entries b), before.1)

-- the book went home, with the fixed part that the seat knows, and the next is served
abbrev pub did_serve : {B E : Type 0} → (B → List ℕ) → Tells B E
did_serve {B} fixed step before found after = (after ≡ (idle before.0, rest before.1)) × ((b : B) → before.1 ≡ (0, Some b) ∷ [] → fixed b ≡ before.0.fixed)

abbrev pub learned : {B E : Type 0} → Tells B E
learned step before found after = (after ≡ before) × IsLearned before.0
