-- The rule, fourth part: parts, and the fixed part that all passes share.
use Rattle.std.specs.Prelude.{◌≡◌, ℕ, ◌<◌, List, [], ◌∷◌, Option, Some}
use mathlib.Core.Option.{some}
use lib.ListN.{get_elem?}
use Rattle.atomic_table.specs.Table.{State}
use Rattle.book_lock.specs.declared.view.Phase.TheVariants.{Idle}
use Rattle.book_lock.specs.declared.view.View.{View}

-- a seat without a part is idle, has seen nothing and owns nothing
pub record Shares {E : Type 0} (base : List ℕ) (v : View E) : Type 0 where
  pub spent : v.parts ≡ 0 → (v.phase ≡ Idle) × (v.seen ≡ []) × (v.own ≡ [])
  pub same : 0 < v.parts → v.fixed ≡ base

pub record Parted {B E : Type 0} (fixed : B → List ℕ) (base : List ℕ) (s : State (Option B) (View E)) : Type 0 where
  pub at_home : (b : B) → s.homes ≡ some (Some b) ∷ [] → fixed b ≡ base
  pub each : (i : ℕ) (v : View E) → get_elem? s.views i ≡ some v → Shares base v
