-- The moment that the entries set.
use Rattle.std.specs.Prelude.{ℕ, List}
use Rattle.std.specs.List.{fold}
use Rattle.eme_types.specs.declared.entry.Entry.{Entry}
use Rattle.eme_types.specs.declared.entry.Entry.TheVariants.{Call, Job, Task, Tick, Feed, Evict, Claim, Deliver, GiveUp, Publish, PassClear, WaitForKey, Settle}

-- the moment after an entry: a tick sets its own, each other entry leaves it
abbrev pub tick_to : ℕ → Entry → ℕ
tick_to n (Call lane line call) = n
tick_to n Job = n
tick_to n Task = n
tick_to n (Tick line moment) = moment
tick_to n (Feed line fragment) = n
tick_to n (Evict line label) = n
tick_to n (Claim worker track index session kid) = n
tick_to n (Deliver place verdict) = n
tick_to n (GiveUp place) = n
tick_to n (Publish track index place) = n
tick_to n (PassClear track index) = n
tick_to n (WaitForKey track) = n
tick_to n (Settle line) = n

-- the moment of the last tick, or 0 before the first
abbrev pub last_moment : List Entry → ℕ
last_moment h = fold tick_to 0 h
