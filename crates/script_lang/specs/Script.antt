-- What the lines of every script keep.
use Rattle.std.specs.Prelude.{ℕ, ◌==◌, ◌&&◌, nat_lt, nat_le, Bool, true, List, [], ◌∷◌, IsTrue}
use Rattle.std.specs.List.{list_all}
use Rattle.eme_types.specs.declared.limits.TheConstants.{MAX_LANES, MAX_MOMENT}
use Rattle.script_lang.specs.declared.script.Action.{Action}
use Rattle.script_lang.specs.declared.script.Action.TheVariants.{Ask, Feed, Clock, Evict, Settle}
use Rattle.script_lang.specs.declared.script.Line.{Line}

-- each number is above the one before
abbrev pub numbers_rise : ℕ → List Line → Bool
numbers_rise last [] = true
numbers_rise last (line ∷ more) = nat_lt last line.number && numbers_rise line.number more

-- a lane is 0 to 7; only lane 0 feeds, sets the clock, evicts and settles
abbrev pub lane_fits : ℕ → Action → Bool
lane_fits lane (Ask call) = nat_lt lane MAX_LANES
lane_fits lane Feed = lane == 0
lane_fits lane (Clock moment) = lane == 0
lane_fits lane (Evict label) = lane == 0
lane_fits lane Settle = lane == 0

-- a moment is not below the one before, and at most 2^53
abbrev pub moment_fits : ℕ → Action → Bool
moment_fits last (Ask call) = true
moment_fits last Feed = true
moment_fits last (Clock moment) = nat_le last moment && nat_le moment MAX_MOMENT
moment_fits last (Evict label) = true
moment_fits last Settle = true

-- the moment after an action
abbrev pub moment_after : ℕ → Action → ℕ
moment_after last (Ask call) = last
moment_after last Feed = last
moment_after last (Clock moment) = moment
moment_after last (Evict label) = last
moment_after last Settle = last

-- no moment is below the one before
abbrev pub moments_rise : ℕ → List Line → Bool
moments_rise last [] = true
moments_rise last (line ∷ more) = moment_fits last line.action && moments_rise (moment_after last line.action) more

-- what the lines of every script keep
pub record IsScript (script : List Line) : Type 0 where
  pub numbers : IsTrue (numbers_rise 0 script)
  pub lanes : IsTrue (list_all (λ line. lane_fits line.lane line.action) script)
  pub moments : IsTrue (moments_rise 0 script)
