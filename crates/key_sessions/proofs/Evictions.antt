-- Which session an eviction ends.
use Rattle.std.proofs.Common.{◌≡◌, ℕ, Bool, true, false, Option, Some, None, refl}
use Rattle.std.specs.Prelude.{if◌then◌else◌}
use Rattle.key_sessions.specs.Machine.{SessionState, Machine}
use Rattle.key_sessions.specs.Calls.{is_ending}
use Rattle.key_sessions.specs.Evict.{open_number, evict_numbered, evict_on}

-- a session that is open is evicted
pub evict_open : (m : Machine) (o : Option (ℕ × SessionState)) (n : ℕ) → open_number o ≡ Some n → evict_on m o ≡ evict_numbered n m
evict_open m None n e = absurd cc
evict_open m (Some (k, s)) n e = go (is_ending s) e where
  go : (b : Bool) → (if b then (let none : Option ℕ = None in none) else Some k) ≡ Some n → (if b then m else evict_numbered k m) ≡ evict_numbered n m
  go true e = absurd cc
  go false e = (let same : k ≡ n = cc in rw same refl)
