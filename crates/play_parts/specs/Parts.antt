-- What the passes of the lanes add: own entries with their places.
use Rattle.std.specs.Prelude.{ℕ, ◌≡◌, ◌<◌, ◌≤◌, List, [], ◌++◌, length, drop, Contains}
use Rattle.std.specs.List.{AllByRecursion}
use Rattle.eme_types.specs.declared.media.Fragment.{Fragment}
use Rattle.eme_types.specs.declared.media.Media.{Media}
use Rattle.eme_types.specs.declared.entry.Entry.{Entry}
use Rattle.eme_types.specs.declared.entry.Entry.TheVariants.{Call}
use Rattle.script_lang.specs.declared.script.Line.{Line}
use Rattle.cdm_state.specs.History.{world, AtRest}
use Rattle.output_order.specs.Lane.{lines_in, lane, asked_in, feeds_in}
use Rattle.output_order.specs.Complete.{FeedsBegun, IsOfLine, feed_rest, implied}
use Rattle.decrypt_workers.specs.Desks.{Placed, EndsClaim}
use Rattle.decrypt_workers.specs.Workers.{IsAnyClaim}
use Rattle.shared_cdm.specs.Own.{entries, NoneAbove}
use Rattle.play_parts.specs.Asks.{IsStep, IsOfLanes, moment_of}

-- each claim among these entries is delivered or given up by one of them
abbrev pub AreEnded : Placed → Type 0
AreEnded news = (p : ℕ) (e : Entry) → Contains news (p, e) → IsAnyClaim e → (q : ℕ) × (x : Entry) × Contains news (q, x) × EndsClaim x p

-- the feeds among these entries gave the fragments in order, but for those that are left, and none past the last
pub record AreFed (fragments left : List Fragment) (es : List Entry) : Type 0 where
  pub each : FeedsBegun fragments es
  pub left_ : drop (length (feeds_in es)) fragments ≡ left

-- steps of lane 0, each claim with its delivery
pub record AreSteps (news : Placed) : Type 0 where
  pub kinds : AllByRecursion (λ x. IsStep x.1) news
  pub ended : AreEnded news

-- an entry of lane 0: a call of its lines, or what every lane may not make
abbrev pub IsOfLane0 : Entry → Type 0
IsOfLane0 (Call lane line call) = lane ≡ 0
IsOfLane0 e = IsOfLanes e

-- lane 0 has gone through its lines among these, in order, and has taken steps
pub record HasLed (lines : List Line) (fragments left : List Fragment) (news : Placed) : Type 0 where
  pub lines_ : lines_in (entries news) ≡ lane lines 0
  pub above : AllByRecursion IsOfLine (asked_in (entries news))
  pub fed : AreFed fragments left (entries news)
  pub kinds : AllByRecursion IsOfLane0 (entries news)
  pub ended : AreEnded news
  pub ticks : NoneAbove (moment_of lines) news

-- the entry is a call of the lane
abbrev pub IsCallOf : ℕ → Entry → Type 0
IsCallOf i (Call lane line call) = lane ≡ i
IsCallOf i e = ⊥

-- lane i has gone through its lines among these, in order; each entry is a call
pub record HasCalled (lines : List Line) (i : ℕ) (news : Placed) : Type 0 where
  pub lines_ : lines_in (entries news) ≡ lane lines i
  pub above : AllByRecursion IsOfLine (asked_in (entries news))
  pub kinds : AllByRecursion (IsCallOf i) (entries news)

-- lanes 0 to k have gone through their lines, and no other lane has made an entry
pub record LanesIn (script : List Line) (fragments left : List Fragment) (k : ℕ) (news : Placed) : Type 0 where
  pub done : (i : ℕ) → i ≤ k → lane (lines_in (entries news)) i ≡ lane script i
  pub none : (i : ℕ) → k < i → lane (lines_in (entries news)) i ≡ []
  pub above : AllByRecursion IsOfLine (asked_in (entries news))
  pub fed : AreFed fragments left (entries news)
  pub kinds : AllByRecursion IsOfLanes (entries news)
  pub ended : AreEnded news

-- behind all lines: lane 0 has added what follows the last line, but for the fragments that are left; `first` were left there
pub record HasFollowed (first left : List Fragment) (news : Placed) : Type 0 where
  pub asked_ : asked_in (entries news) ++ feed_rest left ≡ implied first
  pub kinds : AllByRecursion IsOfLane0 (entries news)
  pub ended : AreEnded news

-- the lanes are over: all lines, and behind them all that follows the last; what was seen ends at rest
pub record LanesOver (script : List Line) (media : Media) (own : Placed) (seen : List Entry) : Type 0 where
  pub lines : Placed
  pub behind : Placed
  pub is : own ≡ lines ++ behind
  pub left : List Fragment
  pub lanes : LanesIn script media.fragments left 7 lines
  pub follows : HasFollowed left [] behind
  pub rest : AtRest (world media.tracks seen)
