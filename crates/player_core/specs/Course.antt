-- How far a play has come.
use Rattle.std.specs.Prelude.{ℕ, ◌+◌, ◌≡◌, ◌≤◌, ◌<◌, List, [], ◌∷◌, ◌++◌, length, take, drop, Option, IsTrue}
use Rattle.std.specs.List.{sum_by, AllByRecursion}
use Rattle.eme_types.specs.declared.media.Fragment.{Fragment}
use Rattle.eme_types.specs.declared.media.Media.{Media}
use Rattle.eme_types.specs.declared.entry.Entry.{Entry}
use Rattle.eme_types.specs.declared.entry.Entry.TheVariants.{Settle}
use Rattle.eme_types.specs.Fed.{IsFed, are_distinct, fragment_samples, fragment_bytes}
use Rattle.script_lang.specs.declared.script.Line.{Line}
use Rattle.script_lang.specs.declared.script.Action.{Action}
use Rattle.script_lang.specs.declared.script.Action.TheVariants.{Ask, Feed as FeedAction, Clock, Evict as EvictAction, Settle as SettleAction}
use Rattle.cdm_state.specs.Run.{Run}
use Rattle.cdm_state.specs.History.{world, AtRest, MayFeedNext, fed_samples, fed_bytes}
use Rattle.cdm_state.specs.Moment.{last_moment}
use Rattle.cdm_state.specs.Progress.{NoneWaits}
use Rattle.output_order.specs.Lane.{lines_in, asked_in, feeds_in}
use Rattle.output_order.specs.Complete.{FeedsBegun, IsOfLine, feed_rest, implied}
use Rattle.play_parts.specs.Asks.{IsStep, IsOfLanes, moment_of}
use Rattle.player_core.specs.Alone.{LastAsked, AreInTurn}

-- these entries more
abbrev pub more_history : Run → List Entry → Run
more_history r es = record r { history = r.history ++ es }

-- steps were taken in turn, each claim with its delivery
pub record Steps (old new : Run) : Type 0 where
  pub taken : List Entry
  pub is : new ≡ more_history old taken
  pub steps : AllByRecursion IsStep taken
  pub delivered : NoneWaits old.history → NoneWaits new.history
  pub turns : AreInTurn old.tracks old.history → AreInTurn new.tracks new.history

-- at least one step was taken
abbrev pub Moves : Run → Run → Type 0
Moves old new = Steps old new × (length old.history < length new.history)

-- steps were taken, each claim with its delivery, and then the entry came; all in turn, where no step was taken since the last line
pub record Goes (old new : Run) (entry : Entry) : Type 0 where
  pub taken : List Entry
  pub is : new ≡ more_history old (taken ++ entry ∷ [])
  pub steps : AllByRecursion IsStep taken
  pub delivered : NoneWaits old.history → NoneWaits new.history
  pub turns : LastAsked old.history → AreInTurn old.tracks old.history → AreInTurn new.tracks new.history

-- steps, and then the settle of a line, after which the core is at rest; all in turn
pub record Settles (old new : Run) (line : ℕ) : Type 0 where
  pub goes : Goes old new (Settle line)
  pub turns : AreInTurn old.tracks old.history → AreInTurn new.tracks new.history
  pub rest : AtRest (world new.tracks new.history)

-- what the action needs; `given` is what a feed gives
abbrev pub MayGo : Run → Action → Option Fragment → Type 0
MayGo r (Ask call) given = Unit {0}
MayGo r FeedAction given = MayFeedNext r.tracks r.history given
MayGo r (Clock moment) given = (world r.tracks r.history).machine.moment ≤ moment
MayGo r (EvictAction label) given = Unit {0}
MayGo r SettleAction given = NoneWaits r.history × IsTrue (are_distinct r.tracks)

-- what a play has fed: the fragments of the media in order, but for those that are left, and none past the last
pub record HasFed (media : Media) (left : List Fragment) (r : Run) : Type 0 where
  pub valid : IsFed media
  pub tracks : r.tracks ≡ media.tracks
  pub feeds : FeedsBegun media.fragments r.history
  pub left_ : drop (length (feeds_in r.history)) media.fragments ≡ left
  pub samples : fed_samples r.history + sum_by fragment_samples left ≡ sum_by fragment_samples media.fragments
  pub bytes : fed_bytes r.history + sum_by fragment_bytes left ≡ sum_by fragment_bytes media.fragments
  pub alone : AllByRecursion IsOfLanes r.history
  pub delivered : NoneWaits r.history
  pub turns : AreInTurn r.tracks r.history
  pub last : LastAsked r.history

-- a play has gone through the first n lines, in order
pub record HasGone (script : List Line) (media : Media) (n : ℕ) (left : List Fragment) (r : Run) : Type 0 where
  pub fed : HasFed media left r
  pub lines : lines_in r.history ≡ take n script
  pub above : AllByRecursion IsOfLine (asked_in r.history)
  pub moment : last_moment r.history ≡ moment_of (take n script)

-- a play has gone through all lines, and behind them through what follows them up to the fragments that are left
pub record HasFollowed (script : List Line) (media : Media) (left : List Fragment) (r : Run) : Type 0 where
  pub fed : HasFed media left r
  pub lines : lines_in r.history ≡ script
  pub before : List Entry
  pub above : AllByRecursion IsOfLine before
  pub follows : asked_in r.history ++ feed_rest left ≡ before ++ implied (drop (length (feeds_in before)) media.fragments)
  pub rest : AtRest (world r.tracks r.history)
