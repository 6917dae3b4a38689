-- The sessions that hold a key under an id, before and after a change of the sessions.
use Rattle.std.proofs.Common.{zero, suc, ◌≡◌, ◌∙◌, ℕ, ◌+◌, ◌<◌, ◌≤◌, Bool, true, false, if◌then◌else◌, List, [], ◌∷◌, ◌++◌, Option, Some, None, is_some, refl, sym, ap, arith}
use Rattle.std.specs.Prelude.{slice_get}
use Rattle.key_statuses.specs.declared.table.KnownKey.{KnownKey}
use Rattle.key_statuses.specs.Table.{key_in}
use Rattle.key_statuses.specs.Index.{holders_of}
use Rattle.eme_types.specs.declared.call.Reason.{Reason}
use Rattle.eme_types.specs.declared.call.Reason.TheVariants.{ClosedByApplication, ResourceEvicted}
use Rattle.task_queue.specs.declared.work.Task.{Task}
use Rattle.task_queue.specs.declared.work.Task.TheVariants.{Reject, RequestDone, UpdateDone, CloseDone, RemoveDone, Evicted, Report, Fire, Resume}
use Rattle.key_sessions.specs.Machine.{SessionState, Machine, session_at, change_at, change_session}
use Rattle.key_sessions.specs.Steps.{Done, unmoved, update_statuses, statuses_now, closed_for}
use Rattle.key_sessions.specs.Tasks.{run_task, take_task, after_task, is_closed, made_callable, next_id}
use Rattle.key_sessions.specs.Holders.{holds_key, holders_from, IsIndexOf}
use Rattle.key_sessions.specs.Indexed.{placed, Follows}
use Rattle.key_sessions.proofs.Placed.{AreGreater, placed_first, placed_next}

greater_from : (k j : ℕ) (ss : List SessionState) (kid : List ℕ) → k < j → AreGreater k (holders_from j ss kid)
greater_from k j [] kid lt = tt
greater_from k j (s ∷ ss) kid lt = go (greater_from k (j + 1) ss kid (omega (arith, lt))) (holds_key kid s) where
  go : AreGreater k (holders_from (j + 1) ss kid) → (b : Bool) → AreGreater k (if b then j ∷ holders_from (j + 1) ss kid else holders_from (j + 1) ss kid)
  go rest true = (lt, rest)
  go rest false = rest

-- after a change of one session
holders_changed : (ss : List SessionState) (n : ℕ) (s : SessionState) (f : SessionState → SessionState) (kid : List ℕ) → session_at ss n ≡ Some s → holders_from 1 (change_session ss n f) kid ≡ placed (holds_key kid (f s)) n (holders_from 1 ss kid)
holders_changed ss zero s f kid at = absurd cc
holders_changed ss (suc i) s f kid at = go ss 1 (suc i) i (omega arith) at where
  go : (ss : List SessionState) (k n i : ℕ) → n ≡ k + i → slice_get ss i ≡ Some s → holders_from k (change_at ss i f) kid ≡ placed (holds_key kid (f s)) n (holders_from k ss kid)
  go [] k n i e at = absurd cc
  go (x ∷ xs) k n zero e at =
      let here : x ≡ s = cc in
      let same : n ≡ k = omega (arith, e) in
      rw (same, ← here) (placed_first (holds_key kid (f x)) (holds_key kid x) k (holders_from (k + 1) xs kid) (greater_from k (k + 1) xs kid (omega arith)))
  go (x ∷ xs) k n (suc i) e at = placed_next (holds_key kid (f s)) (holds_key kid x) k n (holders_from (k + 1) xs kid) (holders_from (k + 1) (change_at xs i f) kid) (omega (arith, e)) (go xs (k + 1) n i (omega (arith, e)) at)

change_same : (ss : List SessionState) (n : ℕ) → change_session ss n (λ s. s) ≡ ss
change_same ss zero = refl
change_same ss (suc i) = go ss i where
  go : (ss : List SessionState) (i : ℕ) → change_at ss i (λ s. s) ≡ ss
  go [] i = refl
  go (x ∷ xs) zero = refl
  go (x ∷ xs) (suc i) = ap (λ ys. x ∷ ys) (go xs i)

-- without a change
holders_placed : (ss : List SessionState) (n : ℕ) (s : SessionState) (kid : List ℕ) → session_at ss n ≡ Some s → holders_from 1 ss kid ≡ placed (holds_key kid s) n (holders_from 1 ss kid)
holders_placed ss n s kid at = sym (ap (λ xs. holders_from 1 xs kid) (change_same ss n)) ∙ holders_changed ss n s (λ x. x) kid at

-- the index of the sessions follows the table of each
pub follows_start : (index : List (List ℕ × List ℕ)) (ss : List SessionState) (n : ℕ) (s : SessionState) → IsIndexOf index ss → session_at ss n ≡ Some s → Follows index n s.keys index
follows_start index ss n s is at kid = rw (is kid) (holders_placed ss n s kid at)

-- an index that follows a table is that of the sessions with the table
pub follows_end : (index new : List (List ℕ × List ℕ)) (ss : List SessionState) (n : ℕ) (s : SessionState) (f : SessionState → SessionState) → IsIndexOf index ss → session_at ss n ≡ Some s → Follows index n (f s).keys new → IsIndexOf new (change_session ss n f)
follows_end index new ss n s f is there follows kid = (rw (is kid) at (follows kid)) ∙ sym (holders_changed ss n s f kid there)

pub follows_back : (index new : List (List ℕ × List ℕ)) (ss : List SessionState) (n : ℕ) (s : SessionState) → IsIndexOf index ss → session_at ss n ≡ Some s → Follows index n s.keys new → IsIndexOf new ss
follows_back index new ss n s is there follows kid = (rw (is kid) at (follows kid)) ∙ sym (holders_placed ss n s kid there)

-- a change that leaves the keys of each session
pub holders_alike : (ss : List SessionState) (n : ℕ) (f : SessionState → SessionState) (kid : List ℕ) → ((s : SessionState) → (f s).keys ≡ s.keys) → holders_from 1 (change_session ss n f) kid ≡ holders_from 1 ss kid
holders_alike ss zero f kid same = refl
holders_alike ss (suc i) f kid same = go ss 1 i where
  go : (ss : List SessionState) (k i : ℕ) → holders_from k (change_at ss i f) kid ≡ holders_from k ss kid
  go [] k i = refl
  go (x ∷ xs) k zero = rw (same x) refl
  go (x ∷ xs) k (suc i) = rw (go xs (k + 1) i) refl

-- one more session, without a key
pub holders_added : (ss : List SessionState) (s : SessionState) (kid : List ℕ) → s.keys ≡ [] → holders_from 1 (ss ++ s ∷ []) kid ≡ holders_from 1 ss kid
holders_added ss s kid none = go ss 1 where
  go : (ss : List SessionState) (k : ℕ) → holders_from k (ss ++ s ∷ []) kid ≡ holders_from k ss kid
  go [] k = rw none refl
  go (x ∷ xs) k = rw (go xs (k + 1)) refl

-- ---- tasks leave the keys

holders_closed : (m : Machine) (n : ℕ) (reason : Reason) (kid : List ℕ) → holders_from 1 (change_session (change_session m.sessions n (statuses_now m.moment)) n (closed_for reason)) kid ≡ holders_from 1 m.sessions kid
holders_closed m n reason kid = holders_alike (change_session m.sessions n (statuses_now m.moment)) n (closed_for reason) kid (λ s. refl) ∙ holders_alike m.sessions n (statuses_now m.moment) kid (λ s. refl)

holders_run : (m : Machine) (task : Task) (kid : List ℕ) → holders_from 1 (run_task task m).machine.sessions kid ≡ holders_from 1 m.sessions kid
holders_run m (Reject p error) kid = refl
holders_run m (RequestDone n kids p) kid = holders_alike m.sessions n (made_callable (next_id m)) kid (λ s. refl)
holders_run m (UpdateDone n true p) kid = holders_alike m.sessions n (statuses_now m.moment) kid (λ s. refl)
holders_run m (UpdateDone n false p) kid = refl
holders_run m (CloseDone n p) kid = holders_closed m n ClosedByApplication kid
holders_run m (RemoveDone n p) kid = holders_alike m.sessions n (statuses_now m.moment) kid (λ s. refl)
holders_run m (Evicted n) kid = holders_closed m n ResourceEvicted kid
holders_run m (Report n) kid = go (is_closed (session_at m.sessions n)) where
  go : (b : Bool) → holders_from 1 (let d : Done = if b then unmoved m else update_statuses n (unmoved m) in d).machine.sessions kid ≡ holders_from 1 m.sessions kid
  go true = refl
  go false = holders_alike m.sessions n (statuses_now m.moment) kid (λ s. refl)
holders_run m (Fire event) kid = refl
holders_run m Resume kid = refl

pub holders_task : (m : Machine) (kid : List ℕ) → holders_from 1 (after_task m).machine.sessions kid ≡ holders_from 1 m.sessions kid
holders_task m kid = go m.tasks where
  go : (ts : List Task) → holders_from 1 (take_task ts m).machine.sessions kid ≡ holders_from 1 m.sessions kid
  go [] = refl
  go (task ∷ ts) = holders_run (record m { tasks = ts }) task kid
