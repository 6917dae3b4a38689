-- Promises by their numbers, from 1.
use Rattle.std.specs.Prelude.{zero, suc, ◌≡◌, ℕ, List, Option, Some, None, slice_get, slice_set}
use Rattle.eme_types.specs.declared.call.Settled.{Settled}

-- the promise with the number, from 1, was made and is not settled
abbrev pub IsPending : List (Option Settled) → ℕ → Type 0
IsPending promises zero = ⊥
IsPending promises (suc i) = slice_get promises i ≡ Some None

-- the promise with the number, from 1, is settled
abbrev pub settle_in : List (Option Settled) → ℕ → Settled → List (Option Settled)
settle_in promises zero how = promises
settle_in promises (suc i) how = slice_set promises i (Some how)
