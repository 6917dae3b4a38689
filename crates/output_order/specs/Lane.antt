-- The lines of a script that the entries of a history stand for.
use Rattle.std.specs.Prelude.{ℕ, ◌==◌, Bool, if◌then◌else◌, List, [], ◌∷◌, Option}
use Rattle.std.specs.List.{filter, flat_map}
use Rattle.eme_types.specs.declared.media.Fragment.{Fragment}
use Rattle.eme_types.specs.declared.entry.Entry.{Entry}
use Rattle.eme_types.specs.declared.entry.Entry.TheVariants.{Call, Tick, Feed, Evict, Settle}
use Rattle.script_lang.specs.declared.script.Line.{Line}
use Rattle.script_lang.specs.declared.script.Action.{Action}
use Rattle.script_lang.specs.declared.script.Action.TheVariants.{Ask, Feed as FeedAction, Clock, Evict as EvictAction, Settle as SettleAction}

-- a line of this number, lane and action; number 0 is no line's
abbrev pub line_with : ℕ → ℕ → Action → List Line
line_with number lane action = if number == 0 then [] else record { number = number; lane = lane; action = action } ∷ []

-- the line that an entry stands for. Ticks, feeds, evictions and settles are of lane 0
abbrev pub line_of : Entry → List Line
line_of (Call lane line call) = line_with line lane (Ask call)
line_of (Tick line moment) = line_with line 0 (Clock moment)
line_of (Feed line fragment) = line_with line 0 FeedAction
line_of (Evict line label) = line_with line 0 (EvictAction label)
line_of (Settle line) = line_with line 0 SettleAction
line_of e = []

-- the lines that a history has gone through, in order
abbrev pub lines_in : List Entry → List Line
lines_in h = flat_map line_of h

-- the line is of lane i
abbrev pub is_of_lane : ℕ → Line → Bool
is_of_lane i line = line.lane == i

-- the lines of lane i
abbrev pub lane : List Line → ℕ → List Line
lane lines i = filter (is_of_lane i) lines

-- the entry, where it is a line's: a call, a tick, a feed, an eviction or a settle
abbrev pub asked : Entry → List Entry
asked (Call lane line call) = Call lane line call ∷ []
asked (Tick line moment) = Tick line moment ∷ []
asked (Feed line fragment) = Feed line fragment ∷ []
asked (Evict line label) = Evict line label ∷ []
asked (Settle line) = Settle line ∷ []
asked e = []

-- the entries of a history that are a line's or implied, in order
abbrev pub asked_in : List Entry → List Entry
asked_in h = flat_map asked h

-- what a feed gives: a fragment, or none
abbrev pub fed_by : Entry → List (Option Fragment)
fed_by (Feed line fragment) = fragment ∷ []
fed_by e = []

-- what the feeds of a history give, in order
abbrev pub feeds_in : List Entry → List (Option Fragment)
feeds_in h = flat_map fed_by h
