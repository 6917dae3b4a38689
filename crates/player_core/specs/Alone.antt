-- The history of a play on one thread: which entry comes after which.
use Rattle.std.specs.Prelude.{ℕ, ◌≤◌, ◌≡◌, List, [], ◌∷◌, length, take, slice_get, Some, IsTrue}
use Rattle.std.specs.List.{list_all}
use Rattle.eme_types.specs.declared.media.Media.{Media}
use Rattle.eme_types.specs.declared.entry.Entry.{Entry}
use Rattle.eme_types.specs.declared.entry.Entry.TheVariants.{Call, Job, Task, Tick, Feed, Evict, Claim, Deliver, GiveUp, Publish, PassClear, WaitForKey, Settle}
use Rattle.script_lang.specs.declared.script.Line.{Line}
use Rattle.cdm_state.specs.History.{world, IsAt, IsLegal, MayClaim, MayPublish, MayPassClear, MayWait}
use Rattle.cdm_state.specs.Contract.{ComesFirst}
use Rattle.cdm_state.specs.Progress.{NoneWaits, NothingToDo}
use Rattle.output_order.specs.Lane.{asked, lines_in, is_of_lane}
use Rattle.output_order.specs.Complete.{IsComplete}

-- no job is queued
abbrev pub NoJob : List ℕ → List Entry → Type 0
NoJob ids h = (world ids h).machine.jobs ≡ []

-- no task is queued
abbrev pub NoTask : List ℕ → List Entry → Type 0
NoTask ids h = (world ids h).machine.tasks ≡ []

-- no sample may be published
abbrev pub NoPublish : List ℕ → List Entry → Type 0
NoPublish ids h = (track index place : ℕ) → MayPublish ids h track index place → ⊥

-- no clear sample may pass
abbrev pub NoPass : List ℕ → List Entry → Type 0
NoPass ids h = (track index : ℕ) → MayPassClear ids h track index → ⊥

-- no sample may be claimed
abbrev pub NoClaim : List ℕ → List Entry → Type 0
NoClaim ids h = (track index session : ℕ) (kid : List ℕ) → MayClaim ids h track index session kid → ⊥

-- a publication is first where no job and no task is queued. Of all tracks that may publish it is of the first
pub record PublishFirst (ids : List ℕ) (h : List Entry) (track : ℕ) : Type 0 where
  pub jobs : NoJob ids h
  pub tasks : NoTask ids h
  pub first : (other index place : ℕ) → MayPublish ids h other index place → ComesFirst ids track other

-- a clear sample is first where, besides, no sample may be published
pub record PassFirst (ids : List ℕ) (h : List Entry) (track : ℕ) : Type 0 where
  pub jobs : NoJob ids h
  pub tasks : NoTask ids h
  pub publish : NoPublish ids h
  pub first : (other index : ℕ) → MayPassClear ids h other index → ComesFirst ids track other

-- a claim of worker 0 is first where, besides, no clear sample may pass. Of all samples that may be claimed it is of the first track, and
-- there the one of least index
pub record ClaimFirst (ids : List ℕ) (h : List Entry) (worker track index : ℕ) : Type 0 where
  pub jobs : NoJob ids h
  pub tasks : NoTask ids h
  pub publish : NoPublish ids h
  pub pass : NoPass ids h
  pub worker_ : worker ≡ 0
  pub first : (other at session : ℕ) (kid : List ℕ) → MayClaim ids h other at session kid → ComesFirst ids track other × (other ≡ track → index ≤ at)

-- a wait is first where, besides, no sample may be claimed
pub record WaitFirst (ids : List ℕ) (h : List Entry) (track : ℕ) : Type 0 where
  pub jobs : NoJob ids h
  pub tasks : NoTask ids h
  pub publish : NoPublish ids h
  pub pass : NoPass ids h
  pub claim : NoClaim ids h
  pub first : (other : ℕ) → MayWait ids h other → ComesFirst ids track other

-- the last entry, if there is one, is a line's or implied
abbrev pub LastAsked : List Entry → Type 0
LastAsked h = (e : Entry) → IsAt h (length h) e → asked e ≡ e ∷ []

-- entry e comes in turn after the history h. A claim is followed by its delivery at once. The call, tick, feed or eviction of a line has
-- no step before it. All else is of the settle loop: the first that may come of a job, a task, a publication, a clear sample, a claim and a wait,
-- and the settle where none of these may
abbrev pub InTurn : List ℕ → List Entry → Entry → Type 0
InTurn ids h (Call lane line call) = LastAsked h
InTurn ids h Job = NoneWaits h
InTurn ids h Task = NoneWaits h × NoJob ids h
InTurn ids h (Tick line moment) = LastAsked h
InTurn ids h (Feed line fragment) = LastAsked h
InTurn ids h (Evict line label) = LastAsked h
InTurn ids h (Claim worker track index session kid) = NoneWaits h × ClaimFirst ids h worker track index
InTurn ids h (Deliver place verdict) = place ≡ length h
InTurn ids h (GiveUp place) = ⊥
InTurn ids h (Publish track index place) = NoneWaits h × PublishFirst ids h track
InTurn ids h (PassClear track index) = NoneWaits h × PassFirst ids h track
InTurn ids h (WaitForKey track) = NoneWaits h × WaitFirst ids h track
InTurn ids h (Settle line) = NoneWaits h × NothingToDo ids h

-- each entry comes in turn after those before it
pub record AreInTurn (ids : List ℕ) (h : List Entry) : Type 0 where
  pub each : (n : ℕ) (e : Entry) → slice_get h n ≡ Some e → InTurn ids (take n h) e

-- the history of the script and the media on one thread: legal and complete, the lines in their order, and each entry in turn
pub record IsAlone (script : List Line) (media : Media) (h : List Entry) : Type 0 where
  pub legal : IsLegal media.tracks h
  pub complete : IsComplete script media h
  pub order : lines_in h ≡ script
  pub turns : AreInTurn media.tracks h
  pub last : LastAsked h

-- every line of the script is of lane 0
abbrev pub IsOneLane : List Line → Type 0
IsOneLane script = IsTrue (list_all (is_of_lane 0) script)

-- a script and a media have at most one such history
abbrev pub IsTheOne : Type 0
IsTheOne = (script : List Line) (media : Media) (h g : List Entry) → IsAlone script media h → IsAlone script media g → h ≡ g
