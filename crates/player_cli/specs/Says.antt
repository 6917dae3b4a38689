-- What the answer of the top call says.
use Rattle.std.specs.Prelude.{ℕ, ◌≡◌, ◌⊎◌, List, [], ◌∷◌, Result, Ok, Err}
use Rattle.eme_edge.specs.Shelf.{ShelfState, Rose}
use Rattle.eme_edge.specs.declared.shelf.ShelfFault.TheVariants.{Failed, OutOfMemory as NoMemory}
use Rattle.player_cli.specs.Command.{Asked, Play, Seal, Tell, quiet_command, command}
use Rattle.player_cli.specs.Ends.{outcome_of}
use Rattle.player_cli.specs.Inputs.{Input, ClearFile, FirstEnds, HasInputs}
use Rattle.player_cli.specs.Played.{play_inputs, HasPlayed, HasPartlyPlayed}
use Rattle.player_cli.specs.Sealed.{HasSealed, HasPartlySealed}
use Rattle.player_cli.specs.Told.{inputs_of, HasTold, HasPartlyTold}
use Rattle.player_cli.specs.Written.{IsUntouched}
use Rattle.player_cli.specs.declared.end.End.{End}
use Rattle.player_cli.specs.declared.end.End.TheVariants.{Whole, Refused, Stopped}
use Rattle.player_cli.specs.declared.outcome.Outcome.{Outcome}
use Rattle.player_cli.specs.declared.outcome.Outcome.TheVariants.{Played, Done, Usage, OutOfMemory}
use Rattle.eme_edge.specs.declared.words.UsageFault.{UsageFault}

-- the answer of a command that has done all of it
abbrev pub done_of : Asked → Outcome
done_of (Play names) = Played
done_of (Seal names) = Done
done_of (Tell query) = Done

-- the files that a command reads, in order
abbrev pub all_inputs : Asked → List Input
all_inputs (Play names) = play_inputs names
all_inputs (Seal names) = ClearFile names ∷ []
all_inputs (Tell query) = inputs_of query

-- the command has done all of it
abbrev pub HasDone : Asked → ShelfState → ShelfState → Type 0
HasDone (Play names) old new = HasPlayed old new names
HasDone (Seal names) old new = HasSealed old new names
HasDone (Tell query) old new = HasTold old new query

-- the command has begun to write or to say, and has stopped there
abbrev pub HasStopped : Asked → ShelfState → ShelfState → Type 0
HasStopped (Play names) old new = HasPartlyPlayed old new names
HasStopped (Seal names) old new = HasPartlySealed old new names
HasStopped (Tell query) old new = HasPartlyTold old new query

-- what each end of a command says
abbrev pub EndSays : End → Asked → ShelfState → ShelfState → Type 0
EndSays Whole asked old new = HasDone asked old new
EndSays (Refused refusal) asked old new = FirstEnds (all_inputs asked) refusal old new × IsUntouched old new
EndSays (Stopped Failed) asked old new = Rose old.write_faults new.write_faults × HasStopped asked old new
EndSays (Stopped NoMemory) asked old new = HasStopped asked old new

-- what the answer says, by what the words ask for
abbrev pub SaysOf : Result Asked UsageFault → Outcome → ShelfState → ShelfState → Type 0
SaysOf (Err fault) outcome old new = (outcome ≡ Usage fault) × IsUntouched old new
SaysOf (Ok asked) outcome old new = (end : End) × (outcome ≡ outcome_of (done_of asked) end) × EndSays end asked old new

-- what the answer of the top call says
abbrev pub Says : List (List ℕ) → Outcome → ShelfState → ShelfState → Type 0
Says words outcome old new = SaysOf (command words) outcome old new

-- the same for the commands that play no files
abbrev pub QuietSays : List (List ℕ) → Outcome → ShelfState → ShelfState → Type 0
QuietSays words outcome old new = SaysOf (quiet_command words) outcome old new

-- the shelf made no fault
pub record NoFault (old new : ShelfState) : Type 0 where
  pub reads : Rose old.read_faults new.read_faults → ⊥
  pub writes : Rose old.write_faults new.write_faults → ⊥

-- words in their grammar, files in their grammars and limits on a shelf that tells them, and no fault of the shelf give all of what is
-- asked for, unless memory is missing
abbrev pub IsDoneWhole : Result Asked UsageFault → Outcome → ShelfState → ShelfState → Type 0
IsDoneWhole (Err fault) outcome old new = Unit {0}
IsDoneWhole (Ok asked) outcome old new = HasInputs old (all_inputs asked) → NoFault old new → (outcome ≡ done_of asked) ⊎ (outcome ≡ OutOfMemory)
