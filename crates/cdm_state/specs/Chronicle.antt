-- What contracts see of a history with its effects.
use Rattle.std.specs.Prelude.{ℕ, ◌+◌, ◌≤◌, List, length}
use Rattle.eme_types.specs.declared.call.Effect.{Effect}
use Rattle.eme_types.specs.declared.entry.Entry.{Entry}
use Rattle.key_claims.specs.TracksState.{FedTrack}
use Rattle.key_claims.specs.TrackValue.{all_left}

-- the entries, the effects of each, and how many entries can be appended without taking memory
pub record ChronicleState : Type 0 where
  pub entries : List Entry
  pub effects : List (List Effect)
  pub room : ℕ

-- room for the delivery of each claim that waits for it, a wait of each track, the publication of each fed sample that is not out, and for these more
abbrev pub HasRoomFor : ChronicleState → ℕ → List FedTrack → ℕ → Type 0
HasRoomFor c waiting ts more = waiting + length ts + all_left ts + more ≤ c.room
