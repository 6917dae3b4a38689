-- Complete histories: every line of the script was gone through, every fragment was fed, and the core is at rest.
-- The first points have a form for a history that may still go on.
use Rattle.std.specs.Prelude.{ℕ, ◌<◌, ◌≤◌, ◌≡◌, ◌≢◌, List, [], ◌∷◌, ◌++◌, length, drop, slice_get, Option, Some}
use Rattle.std.specs.List.{AllByRecursion}
use Rattle.eme_types.specs.declared.limits.TheConstants.{MAX_LANES}
use Rattle.eme_types.specs.declared.media.Fragment.{Fragment}
use Rattle.eme_types.specs.declared.media.Media.{Media}
use Rattle.eme_types.specs.declared.entry.Entry.{Entry}
use Rattle.eme_types.specs.declared.entry.Entry.TheVariants.{Call, Tick, Feed, Evict, Settle}
use Rattle.script_lang.specs.declared.script.Line.{Line}
use Rattle.cdm_state.specs.History.{world, AtRest}
use Rattle.output_order.specs.Lane.{lines_in, lane, asked_in, feeds_in}

-- a front of a list
pub record IsFront {A : Type 0} (front whole : List A) : Type 0 where
  pub rest : List A
  pub is : front ++ rest ≡ whole

-- so far: of each lane a front of its lines was gone through, in order, each once
abbrev pub LanesBegun : List Line → List Entry → Type 0
LanesBegun script h = (i : ℕ) → i < MAX_LANES → IsFront (lane (lines_in h) i) (lane script i)

-- of each lane all lines were gone through, in order, each once
abbrev pub LanesDone : List Line → List Entry → Type 0
LanesDone script h = (i : ℕ) → i < MAX_LANES → lane (lines_in h) i ≡ lane script i

-- a call is of a lane that there is
abbrev pub HasLane : Entry → Type 0
HasLane (Call lane line call) = lane < MAX_LANES
HasLane e = Unit {0}

-- each call is of a lane that there is
abbrev pub LanesKnown : List Entry → Type 0
LanesKnown h = (n : ℕ) (e : Entry) → slice_get h n ≡ Some e → HasLane e

-- so far: the k-th feed gave the k-th fragment, or none past the last
abbrev pub FeedsBegun : List Fragment → List Entry → Type 0
FeedsBegun fragments h = (k : ℕ) (given : Option Fragment) → slice_get (feeds_in h) k ≡ Some given → given ≡ slice_get fragments k

-- and every fragment was fed
pub record FeedsDone (fragments : List Fragment) (h : List Entry) : Type 0 where
  pub each : FeedsBegun fragments h
  pub all : length fragments ≤ length (feeds_in h)

-- the entry is a line's, and the line has a number above 0
abbrev pub IsOfLine : Entry → Type 0
IsOfLine (Call lane line call) = line ≢ 0
IsOfLine (Tick line moment) = line ≢ 0
IsOfLine (Feed line fragment) = line ≢ 0
IsOfLine (Evict line label) = line ≢ 0
IsOfLine (Settle line) = line ≢ 0
IsOfLine e = ⊥

-- a feed and a settle with line 0 for each of these fragments
abbrev pub feed_rest : List Fragment → List Entry
feed_rest [] = []
feed_rest (f ∷ more) = Feed 0 (Some f) ∷ (Settle 0 ∷ feed_rest more)

-- what follows the last line: a settle, and a feed and a settle for each fragment that is not fed yet
abbrev pub implied : List Fragment → List Entry
implied left = Settle 0 ∷ feed_rest left

-- so far: first the entries of lines, then a front of what follows the last line; there is no other entry with line 0
pub record ImpliedBegun (fragments : List Fragment) (h : List Entry) : Type 0 where
  pub lines : List Entry
  pub behind : List Entry
  pub above : AllByRecursion IsOfLine lines
  pub is : asked_in h ≡ lines ++ behind
  pub front : IsFront behind (implied (drop (length (feeds_in lines)) fragments))

-- first the entries of lines, then all that follows the last line; there is no other entry with line 0
pub record ImpliedDone (fragments : List Fragment) (h : List Entry) : Type 0 where
  pub lines : List Entry
  pub above : AllByRecursion IsOfLine lines
  pub is : asked_in h ≡ lines ++ implied (drop (length (feeds_in lines)) fragments)

-- a history that may still go on to one that is complete for the script and the media
pub record IsBegun (script : List Line) (media : Media) (h : List Entry) : Type 0 where
  pub lanes : LanesBegun script h
  pub known : LanesKnown h
  pub feeds : FeedsBegun media.fragments h
  pub implied : ImpliedBegun media.fragments h

-- a history that is complete for the script and the media
pub record IsComplete (script : List Line) (media : Media) (h : List Entry) : Type 0 where
  pub lanes : LanesDone script h
  pub known : LanesKnown h
  pub feeds : FeedsDone media.fragments h
  pub implied : ImpliedDone media.fragments h
  pub rest : AtRest (world media.tracks h)
