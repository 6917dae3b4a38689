-- What contracts see of the sessions.
use Rattle.std.specs.Prelude.{ℕ, ◌≡◌, List}
use Rattle.eme_types.specs.declared.call.Effect.{Effect}
use Rattle.cdm_world.specs.Lost.{AreLost}
use Rattle.key_sessions.specs.Machine.{Machine}
use Rattle.key_sessions.specs.Keys.{held_key}
use Rattle.key_sessions.specs.Steps.{Done}

-- the state; the effects of the last step, in order, until they are taken; the keys that it ended, as pairs of a session and a key id; how many events can be queued without taking memory
pub record SessionsState : Type 0 where
  pub machine : Machine
  pub effects : List Effect
  pub lost : List (ℕ × List ℕ)
  pub room : ℕ

-- the step was made; its effects and the keys that it ended are told
pub record HasStepped (old new : SessionsState) (d : Done) : Type 0 where
  pub machine : new.machine ≡ d.machine
  pub effects : new.effects ≡ d.effects
  pub lost : AreLost (held_key old.machine) (held_key d.machine) new.lost
  pub room : new.room ≡ old.room
