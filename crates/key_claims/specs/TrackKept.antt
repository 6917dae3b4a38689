-- What a track keeps.
use Rattle.std.specs.Prelude.{ℕ, ◌-◌, ◌≤◌, length}
use Rattle.key_claims.specs.declared.track.Track.TheInside.{Inside}
use Rattle.key_claims.specs.TrackValue.{TrackValue, shown}

-- a track as it is seen
abbrev pub value_of : Inside → TrackValue
value_of t = record { track = record { id = t.id; fed = t.fed.0; outputs = shown t.fed.0 t.outputs.0; waiting = t.waiting }; spare = t.fed.1; room = t.outputs.1 }

-- no more is out than was fed, and what is to come out has its room
pub record IsRoomy (fed outputs room : ℕ) : Type 0 where
  pub within : outputs ≤ fed
  pub room_ : fed - outputs ≤ room

-- what a track keeps
abbrev pub IsKept : Inside → Type 0
IsKept t = IsRoomy (length t.fed.0) (length t.outputs.0) t.outputs.1
