-- The rule, third part: places, and the entries that are bound to them. The entries of a list have the places from 1 on.
use Rattle.std.specs.Prelude.{◌≡◌, ℕ, ◌+◌, ◌<◌, ◌≤◌, ◌==◌, nat_le, if◌then◌else◌, List, length, sum_by, count_by}
use mathlib.Core.Option.{Option, some}
use lib.ListN.{get_elem?}
use Rattle.book_lock.specs.declared.view.View.{View}

-- how often the place p stands in the list
abbrev pub times : ℕ → List ℕ → ℕ
times p own = count_by (λ q. q == p) own

-- 1 for a place from 0 to n, and 0 above
abbrev pub once_to : ℕ → ℕ → ℕ
once_to p n = if nat_le p n then 1 else 0

module _ {E : Type 0} (bound : E → Option ℕ) where
  -- each entry that is bound to one of these places has itself one of these places
  abbrev pub Closed : List ℕ → List E → Type 0
  Closed own xs = (k p : ℕ) (e : E) → get_elem? xs k ≡ some e → bound e ≡ some p → 0 < times p own → 0 < times (k + 1) own

  -- each bound entry is bound to a place below its own
  abbrev pub Below : List E → Type 0
  Below xs = (k p : ℕ) (e : E) → get_elem? xs k ≡ some e → bound e ≡ some p → p < k + 1

  -- a seat owns no place above what it has seen
  pub record Owns (current : List E) (v : View E) : Type 0 where
    pub below : (p : ℕ) → 0 < times p v.own → p ≤ length v.seen
    pub closed : Closed v.own current

  -- each place from 0 to the length of the current list is owned once, and none above
  pub record Owned (current : List E) (views : List (View E)) : Type 0 where
    pub owners : (p : ℕ) → sum_by (λ v. times p v.own) views ≡ once_to p (length current)
    pub bound_below : Below current
    pub each : (i : ℕ) (v : View E) → get_elem? views i ≡ some v → Owns current v
