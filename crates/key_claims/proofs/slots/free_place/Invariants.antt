use Rattle.std.proofs.Common.{ℕ, ◌≡◌, ◌<◌, true}
use Rattle.key_claims.specs.Holds.{is_held}
use Rattle.key_claims.proofs.slots.free_place.Given as goal

-- the places before are held
abbrev pub invariant-loop-place : goal.invariant-loop-place
invariant-loop-place l = (i : ℕ) → i < l.place → is_held l.slots i ≡ true
