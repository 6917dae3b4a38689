-- Paced scripts have one answer.
use Rattle.std.specs.Prelude.{ℕ, ◌≡◌, List}
use Rattle.std.specs.List.{filter, flat_map}
use Rattle.eme_types.specs.Fed.{IsFed}
use Rattle.eme_types.specs.declared.call.Effect.{Effect}
use Rattle.eme_types.specs.declared.media.Media.{Media}
use Rattle.eme_types.specs.declared.entry.Entry.{Entry}
use Rattle.cdm_world.specs.In.{In}
use Rattle.cdm_state.specs.History.{world, IsLegal}
use Rattle.cdm_state.specs.Output.{out}
use Rattle.cdm_state.specs.Settlements.{effects_in}
use Rattle.script_lang.specs.declared.script.Line.{Line}
use Rattle.script_lang.specs.Paced.{IsPaced}
use Rattle.output_order.specs.Complete.{IsComplete}
use Rattle.serial_play.specs.Served.{is_heard}
use Rattle.serial_play.specs.Serial.{serial, Agreeing}

-- all effects of a history but its `waitingforkey` events, in order
abbrev pub heard_in : List ℕ → List Entry → List Effect
heard_in ids h = flat_map (filter is_heard) (effects_in ids h)

-- the history has the outputs, the promise results and the effects of the serial play, these in one order: the reported statuses and
-- the closing of each session and all events but `waitingforkey`
pub record IsSerial (script : List Line) (media : Media) (h : List Entry) : Type 0 where
  pub outputs : (track : ℕ) → In media.tracks track → out media.tracks h track ≡ (serial script media).out track
  pub results : (world media.tracks h).machine.promises ≡ (serial script media).machine.promises
  pub heard : heard_in media.tracks h ≡ (serial script media).heard

-- where the script is paced and agreeing, the history has the answer of the serial play
abbrev pub HasSerialAnswer : List Line → Media → List Entry → Type 0
HasSerialAnswer script media h = IsPaced script → Agreeing script media → IsSerial script media h

-- each legal history that is complete for a paced and agreeing script has the answer of the serial play
abbrev pub OneAnswer : Type 0
OneAnswer = (script : List Line) (media : Media) (h : List Entry) → IsFed media → IsLegal media.tracks h → IsComplete script media h → HasSerialAnswer script media h
