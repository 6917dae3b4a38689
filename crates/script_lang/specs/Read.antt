-- What was read of a line, and of the lines before it.
use Rattle.std.specs.Prelude.{◌≡◌, ℕ, List, Some, None}
use Rattle.script_lang.specs.declared.script.Action.{Action}
use Rattle.script_lang.specs.declared.parts.Parts.{Parts}
use Rattle.script_lang.specs.declared.told.Told.{Told}
use Rattle.script_lang.specs.Content.{data_bytes, moment_of}
use Rattle.script_lang.specs.Rules.{lane_in, verb_in, first_in, second_in, last_in, words_fault, data_fault, moment_fault, content_fault}
use Rattle.script_lang.specs.Grammar.{action_of, created, moment_at_end}

-- the rules on its words hold, and these are the line's parts
pub record IsPartsOf (line : List ℕ) (parts : Parts) : Type 0 where
  pub whole : words_fault line ≡ None
  pub lane : lane_in line ≡ parts.lane
  pub verb : verb_in line ≡ Some parts.verb
  pub first : parts.first.now ≡ first_in line
  pub second : parts.second.now ≡ second_in line
  pub last : parts.last.now ≡ last_in parts.verb line

-- the rules on data hold, and these are its bytes
pub record ReadsData (text bytes : List ℕ) : Type 0 where
  pub whole : data_fault text ≡ None
  pub value : data_bytes text ≡ Some bytes

-- the rules on a moment hold, and this is it
pub record ReadsMoment (last : ℕ) (text : List ℕ) (moment : ℕ) : Type 0 where
  pub whole : moment_fault last text ≡ None
  pub value : moment_of text ≡ Some moment

-- the rules on data and moments hold, and this is what the line does
pub record ActsAs (last : ℕ) (parts : Parts) (action : Action) : Type 0 where
  pub whole : content_fault last parts.verb parts.last.now ≡ None
  pub value : action ≡ action_of parts.verb parts.first.now parts.second.now parts.last.now

-- the labels and the moment are those of the lines
pub record IsTold (told : Told) : Type 0 where
  pub labels : told.labels ≡ created told.lines
  pub moment : told.moment ≡ moment_at_end told.lines
