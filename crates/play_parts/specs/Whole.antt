-- The parts of a play that is over make a whole.
use Rattle.std.specs.Prelude.{ℕ, ◌≡◌, List, ◌++◌}
use mathlib.Core.List.{IsPrefix}
use Rattle.eme_types.specs.declared.media.Media.{Media}
use Rattle.eme_types.specs.declared.entry.Entry.{Entry}
use Rattle.script_lang.specs.declared.script.Line.{Line}
use Rattle.cdm_state.specs.History.{IsLegal}
use Rattle.cdm_state.specs.Progress.{NoneWaits}
use Rattle.output_order.specs.Complete.{IsComplete}
use Rattle.output_order.specs.Staffed.{IsStaffed}
use Rattle.shared_cdm.specs.Own.{own_in, AreSeen, entries}
use Rattle.play_parts.specs.Parts.{LanesOver}
use Rattle.play_parts.specs.Crew.{CrewIn}

-- the pass into which the lanes and the workers 1 to k were joined: these places it owns, and this it has seen
pub record TeamOver (script : List Line) (media : Media) (k : ℕ) (own : List ℕ) (seen : List Entry) : Type 0 where
  pub mine : List ℕ
  pub theirs : List ℕ
  pub is : own ≡ mine ++ theirs
  pub before : List Entry
  pub later : IsPrefix before seen
  pub below : AreSeen mine before
  pub lanes : LanesOver script media (own_in mine before) before
  pub crew : CrewIn k (own_in theirs seen)

-- what a play leaves behind: the script and the media were gone through whole, each worker did its part, and no claim is open
pub record IsWhole (script : List Line) (media : Media) (k : ℕ) (h : List Entry) : Type 0 where
  pub complete : IsComplete script media h
  pub staffed : IsStaffed k h
  pub delivered : NoneWaits h

-- where each entry of a legal history is one of that pass
abbrev pub TeamIsWhole : Type 0
TeamIsWhole = (script : List Line) (media : Media) (k : ℕ) (own : List ℕ) (h : List Entry) → IsLegal media.tracks h → TeamOver script media k own h → entries (own_in own h) ≡ h → IsWhole script media k h
