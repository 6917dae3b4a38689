-- What one turn of the settle loop does.
use Rattle.std.specs.Prelude.{ℕ}
use Rattle.cdm_state.specs.Run.{Run}
use Rattle.player_core.specs.declared.settle.Turn.{Turn}
use Rattle.player_core.specs.declared.settle.Turn.TheVariants.{Went, Settled}
use Rattle.player_core.specs.Course.{Moves, Settles}

-- a step was taken; or the settle of the line was added, and the core is at rest
abbrev pub Turns : Run → ℕ → Turn → Run → Type 0
Turns old line Went new = Moves old new
Turns old line Settled new = Settles old new line
