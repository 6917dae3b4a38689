-- The entry that a line of a script asks for, and the steps that come between such entries.
use Rattle.std.specs.Prelude.{ℕ, ◌≡◌, ◌<◌, List, drop, Option}
use Rattle.std.specs.List.{fold}
use Rattle.eme_types.specs.declared.media.Fragment.{Fragment}
use Rattle.eme_types.specs.declared.entry.Entry.{Entry}
use Rattle.eme_types.specs.declared.entry.Entry.TheVariants.{Call, Job, Task, Tick, Feed, Evict, Claim, Deliver, GiveUp, Publish, PassClear, WaitForKey, Settle}
use Rattle.eme_types.specs.declared.limits.TheConstants.{MAX_LANES}
use Rattle.script_lang.specs.declared.script.Line.{Line}
use Rattle.script_lang.specs.declared.script.Action.{Action}
use Rattle.script_lang.specs.declared.script.Action.TheVariants.{Ask, Feed as FeedAction, Clock, Evict as EvictAction, Settle as SettleAction}
use Rattle.script_lang.specs.Script.{moment_after}

-- the entry of an action; a feed gives the fragment
abbrev pub entry_for : ℕ → ℕ → Action → Option Fragment → Entry
entry_for number lane (Ask call) given = Call lane number call
entry_for number lane FeedAction given = Feed number given
entry_for number lane (Clock moment) given = Tick number moment
entry_for number lane (EvictAction label) given = Evict number label
entry_for number lane SettleAction given = Settle number

-- the entry of a line
abbrev pub entry_of : Line → Option Fragment → Entry
entry_of line given = entry_for line.number line.lane line.action given

-- a step that is no line's, taken by lane 0: its claims name worker 0, and it gives none up
abbrev pub IsStep : Entry → Type 0
IsStep (Call lane line call) = ⊥
IsStep Job = Unit {0}
IsStep Task = Unit {0}
IsStep (Tick line moment) = ⊥
IsStep (Feed line fragment) = ⊥
IsStep (Evict line label) = ⊥
IsStep (Claim worker track index session kid) = worker ≡ 0
IsStep (Deliver place verdict) = Unit {0}
IsStep (GiveUp place) = ⊥
IsStep (Publish track index place) = Unit {0}
IsStep (PassClear track index) = Unit {0}
IsStep (WaitForKey track) = Unit {0}
IsStep (Settle line) = ⊥

-- an entry that the lanes of a play may make, among which lane 0 takes the steps: its claims name worker 0, and it gives none up
abbrev pub IsOfLanes : Entry → Type 0
IsOfLanes (Call lane line call) = lane < MAX_LANES
IsOfLanes (Claim worker track index session kid) = worker ≡ 0
IsOfLanes (GiveUp place) = ⊥
IsOfLanes e = Unit {0}

-- the fragments that are left after an action
abbrev pub left_by : List Fragment → Action → List Fragment
left_by left (Ask call) = left
left_by left FeedAction = drop 1 left
left_by left (Clock moment) = left
left_by left (EvictAction label) = left
left_by left SettleAction = left

-- the moment, one line on
abbrev pub moment_by : ℕ → Line → ℕ
moment_by last line = moment_after last line.action

-- the moment after these lines
abbrev pub moment_of : List Line → ℕ
moment_of lines = fold moment_by 0 lines
