-- The keys that sessions hold, before and after a change of the sessions.
use Rattle.std.proofs.Common.{zero, suc, ◌≡◌, ℕ, ◌+◌, ◌≤◌, List, [], ◌∷◌, ◌++◌, length, Option, Some, None, refl, ap, ◌∙◌, arith, add-one}
use Rattle.std.specs.Prelude.{slice_get}
use Rattle.eme_types.specs.declared.kid.KeyBytes.{KeyBytes}
use Rattle.key_sessions.specs.Machine.{SessionState, session_at, change_at, change_session}
use Rattle.key_sessions.specs.Keys.{usable_key, key_of, held_in}

-- the session with the number
pub held_there : (moment : ℕ) (ss : List SessionState) (n : ℕ) (s : SessionState) (kid : List ℕ) → session_at ss n ≡ Some s → held_in moment ss n kid ≡ usable_key moment s kid
held_there moment ss n s kid at = ap (λ (o : Option SessionState). key_of moment o kid) at

pub at_changed : (ss : List SessionState) (n : ℕ) (s : SessionState) (f : SessionState → SessionState) → session_at ss n ≡ Some s → session_at (change_session ss n f) n ≡ Some (f s)
at_changed ss zero s f at = absurd cc
at_changed ss (suc i) s f at = go ss i at where
  go : (ss : List SessionState) (i : ℕ) → slice_get ss i ≡ Some s → slice_get (change_at ss i f) i ≡ Some (f s)
  go [] i at = absurd cc
  go (x ∷ xs) zero at = (let e : x ≡ s = cc in ap (λ (y : SessionState). Some (f y)) e)
  go (x ∷ xs) (suc i) at = go xs i at

-- no such session
pub change_missing : (ss : List SessionState) (n : ℕ) (f : SessionState → SessionState) → session_at ss n ≡ None → change_session ss n f ≡ ss
change_missing ss zero f at = refl
change_missing ss (suc i) f at = go ss i at where
  go : (ss : List SessionState) (i : ℕ) → slice_get ss i ≡ None → change_at ss i f ≡ ss
  go [] i at = refl
  go (x ∷ xs) zero at = absurd cc
  go (x ∷ xs) (suc i) at = ap (λ (ys : List SessionState). x ∷ ys) (go xs i at)

-- a change that leaves the usable key of each session
pub held_alike : (moment : ℕ) (ss : List SessionState) (n k : ℕ) (f : SessionState → SessionState) (kid : List ℕ) → ((s : SessionState) → usable_key moment (f s) kid ≡ usable_key moment s kid) → held_in moment (change_session ss n f) k kid ≡ held_in moment ss k kid
held_alike moment ss zero k f kid same = refl
held_alike moment ss (suc i) zero f kid same = refl
held_alike moment ss (suc i) (suc j) f kid same = go ss i j where
  go : (ss : List SessionState) (i j : ℕ) → key_of moment (slice_get (change_at ss i f) j) kid ≡ key_of moment (slice_get ss j) kid
  go [] i j = refl
  go (x ∷ xs) zero zero = same x
  go (x ∷ xs) zero (suc j) = refl
  go (x ∷ xs) (suc i) zero = refl
  go (x ∷ xs) (suc i) (suc j) = go xs i j

-- the other sessions
pub held_other : (moment : ℕ) (ss : List SessionState) (n k : ℕ) (f : SessionState → SessionState) (kid : List ℕ) → (n ≡ k → ⊥) → held_in moment (change_session ss n f) k kid ≡ held_in moment ss k kid
held_other moment ss zero k f kid ne = refl
held_other moment ss (suc i) zero f kid ne = refl
held_other moment ss (suc i) (suc j) f kid ne = go ss i j (λ e. ne (ap suc e)) where
  go : (ss : List SessionState) (i j : ℕ) → (i ≡ j → ⊥) → key_of moment (slice_get (change_at ss i f) j) kid ≡ key_of moment (slice_get ss j) kid
  go [] i j ne = refl
  go (x ∷ xs) zero zero ne = absurd (ne refl)
  go (x ∷ xs) zero (suc j) ne = refl
  go (x ∷ xs) (suc i) zero ne = refl
  go (x ∷ xs) (suc i) (suc j) ne = go xs i j (λ e. ne (ap suc e))

-- one more session behind a session that is there
pub held_before : (before after : ℕ) (ss : List SessionState) (s : SessionState) (k : ℕ) (kid other : List ℕ) (key : KeyBytes) → held_in before ss k kid ≡ Some key → held_in after (ss ++ s ∷ []) k other ≡ held_in after ss k other
held_before before after ss s zero kid other key at = refl
held_before before after ss s (suc j) kid other key at = go ss j at where
  go : (ss : List SessionState) (j : ℕ) → key_of before (slice_get ss j) kid ≡ Some key → key_of after (slice_get (ss ++ s ∷ []) j) other ≡ key_of after (slice_get ss j) other
  go [] j at = absurd cc
  go (x ∷ xs) zero at = refl
  go (x ∷ xs) (suc j) at = go xs j at

pub held_more : (moment : ℕ) (ss : List SessionState) (s : SessionState) (k : ℕ) (kid : List ℕ) (key : KeyBytes) → held_in moment ss k kid ≡ Some key → held_in moment (ss ++ s ∷ []) k kid ≡ Some key
held_more moment ss s k kid key at = held_before moment moment ss s k kid kid key at ∙ at

-- the last session
pub held_last : (moment : ℕ) (ss : List SessionState) (s : SessionState) (kid : List ℕ) → held_in moment (ss ++ s ∷ []) (length ss + 1) kid ≡ usable_key moment s kid
held_last moment ss s kid = rw add-one (go ss) where
  go : (ss : List SessionState) → key_of moment (slice_get (ss ++ s ∷ []) (length ss)) kid ≡ usable_key moment s kid
  go [] = refl
  go (x ∷ xs) = go xs

-- a session that is not the last one
pub held_less : (moment : ℕ) (ss : List SessionState) (s : SessionState) (k : ℕ) (kid : List ℕ) (key : KeyBytes) → (length ss + 1 ≡ k → ⊥) → held_in moment (ss ++ s ∷ []) k kid ≡ Some key → held_in moment ss k kid ≡ Some key
held_less moment ss s zero kid key ne at = at
held_less moment ss s (suc j) kid key ne at = go ss j (λ e. ne (omega (arith, e))) at where
  go : (ss : List SessionState) (j : ℕ) → (length ss ≡ j → ⊥) → key_of moment (slice_get (ss ++ s ∷ []) j) kid ≡ Some key → key_of moment (slice_get ss j) kid ≡ Some key
  go [] zero ne at = absurd (ne refl)
  go [] (suc j) ne at = at
  go (x ∷ xs) zero ne at = at
  go (x ∷ xs) (suc j) ne at = go xs j (λ e. ne (ap suc e)) at

-- a session that holds a key is there
pub held_within : (moment : ℕ) (ss : List SessionState) (k : ℕ) (kid : List ℕ) (key : KeyBytes) → held_in moment ss k kid ≡ Some key → k ≤ length ss
held_within moment ss zero kid key at = omega arith
held_within moment ss (suc j) kid key at = go ss j at where
  go : (ss : List SessionState) (j : ℕ) → key_of moment (slice_get ss j) kid ≡ Some key → suc j ≤ length ss
  go [] j at = absurd cc
  go (x ∷ xs) zero at = omega arith
  go (x ∷ xs) (suc j) at = (let h = go xs j at in omega (arith, h))
