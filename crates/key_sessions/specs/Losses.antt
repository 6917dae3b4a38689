-- The keys that a step ends.
use Rattle.std.specs.Prelude.{ℕ, List, Option}
use Rattle.cdm_world.specs.Lost.{AreLost}
use Rattle.key_sessions.specs.declared.change.Change.{Change}
use Rattle.key_sessions.specs.Machine.{SessionState}
use Rattle.key_sessions.specs.Keys.{held_in}
use Rattle.key_sessions.specs.Changes.{changed_in}

-- the list has what a change of one session ends
abbrev pub LosesBy : ℕ → Option Change → List SessionState → ℕ → List (ℕ × List ℕ) → Type 0
LosesBy n change ss moment list = AreLost (held_in moment ss) (held_in moment (changed_in ss n change)) list

-- the list has what the time ends between two moments
abbrev pub LosesInTime : ℕ → ℕ → List SessionState → List (ℕ × List ℕ) → Type 0
LosesInTime before after ss list = AreLost (held_in before ss) (held_in after ss) list
