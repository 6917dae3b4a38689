-- What each entry of a history did, and which of them settle a promise.
use Rattle.std.specs.Prelude.{ℕ, if◌then◌else◌, List, [], ◌∷◌, ◌++◌}
use Rattle.std.specs.List.{sum_by}
use Rattle.eme_types.specs.declared.call.Effect.{Effect}
use Rattle.eme_types.specs.declared.entry.Entry.{Entry}
use Rattle.eme_types.specs.declared.entry.Entry.TheVariants.{Call, Job, Task, Tick, Feed, Evict, Claim, Deliver, GiveUp, Publish, PassClear, WaitForKey, Settle}
use Rattle.key_sessions.specs.Owed.{settles}
use Rattle.key_sessions.specs.World.{World, empty_world}
use Rattle.cdm_state.specs.After.{after_entry, effects_of}

-- the effects of each of these entries, from a world on
abbrev pub effects_from : World → List Entry → List (List Effect)
effects_from w [] = []
effects_from w (e ∷ es) = effects_of w e ∷ effects_from (after_entry w e) es

-- the effects of each entry of a history
unfoldable pub effects_in : List ℕ → List Entry → List (List Effect)
effects_in ids h = effects_from (empty_world ids) h

-- the entry once for each of these effects that settles the promise
abbrev pub settling : ℕ → Entry → List Effect → List Entry
settling p e [] = []
settling p e (x ∷ xs) = if settles p x then e ∷ settling p e xs else settling p e xs

-- the entries of these that settle the promise, from a world on
abbrev pub settlements_from : World → ℕ → List Entry → List Entry
settlements_from w p [] = []
settlements_from w p (e ∷ es) = settling p e (effects_of w e) ++ settlements_from (after_entry w e) p es

-- the entries that settle the promise; one that settles it twice stands there twice
unfoldable pub settlements : List ℕ → List Entry → ℕ → List Entry
settlements ids h p = settlements_from (empty_world ids) p h

-- 1 for a call, 0 for another entry
abbrev pub is_call : Entry → ℕ
is_call (Call lane line call) = 1
is_call Job = 0
is_call Task = 0
is_call (Tick line moment) = 0
is_call (Feed line fragment) = 0
is_call (Evict line label) = 0
is_call (Claim worker track index session kid) = 0
is_call (Deliver p verdict) = 0
is_call (GiveUp p) = 0
is_call (Publish track index p) = 0
is_call (PassClear track index) = 0
is_call (WaitForKey track) = 0
is_call (Settle line) = 0

-- the number of calls, and so of promises
abbrev pub calls_in : List Entry → ℕ
calls_in h = sum_by is_call h
