-- What a history with its effects keeps.
use Rattle.std.specs.Prelude.{◌≡◌, ◌≤◌}
use Rattle.std.specs.List.{sum_by}
use Rattle.cdm_state.specs.declared.chronicle.Chronicle.TheInside.{Inside}
use Rattle.cdm_state.specs.Chronicle.{ChronicleState}
use Rattle.cdm_state.specs.Feeds.{fragments_fed}

abbrev pub chronicle_of : Inside → ChronicleState
chronicle_of c = record { entries = c.entries.0; effects = c.effects.0; room = c.room }

-- both lists have the room, and the fragments are counted
pub record HasItsRoom (c : Inside) : Type 0 where
  pub entries : c.room ≤ c.entries.1
  pub effects : c.room ≤ c.effects.1
  pub counted : c.fragments ≡ sum_by fragments_fed c.entries.0
