-- Paced scripts: one lane, which settles after each of its lines.
use Rattle.std.specs.Prelude.{ℕ, ◌+◌, ◌≡◌, ◌⊎◌, Bool, true, false, List, slice_get, Some}
use Rattle.script_lang.specs.declared.script.Action.{Action}
use Rattle.script_lang.specs.declared.script.Action.TheVariants.{Ask, Feed, Clock, Evict, Settle}
use Rattle.script_lang.specs.declared.script.Line.{Line}

-- all lines are of lane 0, and each line that is no `settle` is the last or is followed by a `settle`
pub record IsPaced (script : List Line) : Type 0 where
  pub lane : (n : ℕ) (line : Line) → slice_get script n ≡ Some line → line.lane ≡ 0
  pub settled : (n : ℕ) (line next : Line) → slice_get script n ≡ Some line → slice_get script (n + 1) ≡ Some next → (line.action ≡ Settle) ⊎ (next.action ≡ Settle)

-- the action is `settle`
abbrev pub settles : Action → Bool
settles (Ask call) = false
settles Feed = false
settles (Clock moment) = false
settles (Evict label) = false
settles Settle = true
