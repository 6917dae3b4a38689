-- Where a close or an eviction is still to be done, its session has no key any more.
use Rattle.std.proofs.Common.{zero, suc, ◌≡◌, ℕ, ◌+◌, Bool, true, false, List, [], ◌∷◌, ◌++◌, map, Option, Some, None, refl, ap, sym, subst}
use Rattle.std.specs.Prelude.{if◌then◌else◌, slice_get}
use Rattle.std.specs.List.{filter}
use Rattle.eme_types.specs.declared.kid.KeyBytes.{KeyBytes}
use Rattle.eme_types.specs.declared.media.InitData.{InitData}
use Rattle.task_queue.specs.declared.work.Task.{Task}
use Rattle.task_queue.specs.declared.work.Task.TheVariants.{CloseDone, Evicted, Report}
use Rattle.key_statuses.specs.Table.{key_in}
use Rattle.key_statuses.specs.Statuses.{is_usable}
use Rattle.key_sessions.specs.Machine.{SessionState, Machine, session_at, status_at, change_at, change_session}
use Rattle.key_sessions.specs.Keys.{usable_key, key_of, held_in}
use Rattle.key_sessions.specs.Steps.{closed_for}
use Rattle.key_sessions.specs.Tasks.{is_reported, reports_from}
use Rattle.cdm_state.specs.After.{fire_encrypted}
use Rattle.eme_types.specs.declared.call.Reason.{Reason}
use Rattle.serial_play.specs.Served.{is_kept, quiet}

-- a session that is there has an empty table
abbrev pub NoKeys : Option SessionState → Type 0
NoKeys None = Unit {0}
NoKeys (Some s) = s.keys ≡ []

-- what closes a session finds it without keys
abbrev pub Keyless : List SessionState → Task → Type 0
Keyless ss (CloseDone n p) = NoKeys (session_at ss n)
Keyless ss (Evicted n) = NoKeys (session_at ss n)
Keyless ss task = Unit {0}

-- each of these tasks that closes a session finds it without keys
abbrev pub AllKeyless : List SessionState → List Task → Type 0
AllKeyless ss [] = Unit {0}
AllKeyless ss (task ∷ ts) = Keyless ss task × AllKeyless ss ts

-- each queued task that closes a session finds it without keys
abbrev pub ClosersKeyless : Machine → Type 0
ClosersKeyless m = AllKeyless m.sessions m.tasks

-- ---- sessions

change_keyless : (f : SessionState → SessionState) → ((s : SessionState) → s.keys ≡ [] → (f s).keys ≡ []) → (ss : List SessionState) (i j : ℕ) → NoKeys (slice_get ss j) → NoKeys (slice_get (change_at ss i f) j)
change_keyless f keeps [] i j none = none
change_keyless f keeps (s ∷ ss) zero zero none = keeps s none
change_keyless f keeps (s ∷ ss) zero (suc j) none = none
change_keyless f keeps (s ∷ ss) (suc i) zero none = none
change_keyless f keeps (s ∷ ss) (suc i) (suc j) none = change_keyless f keeps ss i j none

-- a change that gives no key leaves a session without keys so
pub keyless_stays : (ss : List SessionState) (n k : ℕ) (f : SessionState → SessionState) → ((s : SessionState) → s.keys ≡ [] → (f s).keys ≡ []) → NoKeys (session_at ss k) → NoKeys (session_at (change_session ss n f) k)
keyless_stays ss zero k f keeps none = none
keyless_stays ss (suc i) zero f keeps none = none
keyless_stays ss (suc i) (suc j) f keeps none = change_keyless f keeps ss i j none

-- a change that empties the table leaves the session without keys
pub keyless_now : (ss : List SessionState) (n : ℕ) (f : SessionState → SessionState) → ((s : SessionState) → (f s).keys ≡ []) → NoKeys (session_at (change_session ss n f) n)
keyless_now ss zero f empties = tt
keyless_now ss (suc i) f empties = go ss i where
  go : (ss : List SessionState) (i : ℕ) → NoKeys (slice_get (change_at ss i f) i)
  go [] i = tt
  go (s ∷ ss) zero = empties s
  go (s ∷ ss) (suc i) = go ss i

-- a change of a session without keys that gives it no usable key
module _ (moment : ℕ) (f : SessionState → SessionState) (kid : List ℕ) (same : (s : SessionState) → s.keys ≡ [] → usable_key moment (f s) kid ≡ usable_key moment s kid) where
  change_held : (ss : List SessionState) (i j : ℕ) → NoKeys (slice_get ss i) → key_of moment (slice_get (change_at ss i f) j) kid ≡ key_of moment (slice_get ss j) kid
  change_held [] i j none = refl
  change_held (s ∷ ss) zero zero none = same s none
  change_held (s ∷ ss) zero (suc j) none = refl
  change_held (s ∷ ss) (suc i) zero none = refl
  change_held (s ∷ ss) (suc i) (suc j) none = change_held ss i j none

  held_without : (ss : List SessionState) (n k : ℕ) → NoKeys (session_at ss n) → held_in moment (change_session ss n f) k kid ≡ held_in moment ss k kid
  held_without ss zero k none = refl
  held_without ss (suc i) zero none = refl
  held_without ss (suc i) (suc j) none = change_held ss i j none

none_usable : (closed usable : Bool) (key : Option KeyBytes) → key ≡ None → None ≡ (if closed then None else (if usable then key else None))
none_usable true usable key none = refl
none_usable false true key none = sym none
none_usable false false key none = refl

-- a session without keys holds no usable key, closed or not
pub held_closed : (moment : ℕ) (ss : List SessionState) (n k : ℕ) (reason : Reason) (kid : List ℕ) → NoKeys (session_at ss n) → held_in moment (change_session ss n (closed_for reason)) k kid ≡ held_in moment ss k kid
held_closed moment ss n k reason kid none = held_without moment (closed_for reason) kid (λ s empty. none_usable s.closed (is_usable (status_at moment s)) (key_in s.keys kid) (ap (λ ks. key_in ks kid) empty)) ss n k none

-- ---- tasks

-- the same tasks with other sessions, where no session without keys has gained one
pub keyless_task : (ss ss' : List SessionState) → ((n : ℕ) → NoKeys (session_at ss n) → NoKeys (session_at ss' n)) → (task : Task) → Keyless ss task → Keyless ss' task
keyless_task ss ss' keeps (CloseDone n p) none = keeps n none
keyless_task ss ss' keeps (Evicted n) none = keeps n none
keyless_task ss ss' keeps task none = tt

pub keyless_tasks : (ss ss' : List SessionState) → ((n : ℕ) → NoKeys (session_at ss n) → NoKeys (session_at ss' n)) → (ts : List Task) → AllKeyless ss ts → AllKeyless ss' ts
keyless_tasks ss ss' keeps [] all = tt
keyless_tasks ss ss' keeps (task ∷ ts) all = (keyless_task ss ss' keeps task all.0, keyless_tasks ss ss' keeps ts all.1)

pub keyless_both : (ss : List SessionState) (ts us : List Task) → AllKeyless ss ts → AllKeyless ss us → AllKeyless ss (ts ++ us)
keyless_both ss [] us before behind = behind
keyless_both ss (task ∷ ts) us before behind = (before.0, keyless_both ss ts us before.1 behind)

-- where no task is queued
pub keyless_none : (m : Machine) → m.tasks ≡ [] → ClosersKeyless m
keyless_none m none = subst (AllKeyless m.sessions) (sym none) tt

pub keyless_reports : (ss : List SessionState) (old new n : ℕ) (xs : List SessionState) → AllKeyless ss (reports_from old new n xs)
keyless_reports ss old new n [] = tt
keyless_reports ss old new n (x ∷ xs) = go (is_reported old new x) (keyless_reports ss old new (n + 1) xs) where
  go : (b : Bool) → AllKeyless ss (reports_from old new (n + 1) xs) → AllKeyless ss (if b then Report n ∷ reports_from old new (n + 1) xs else reports_from old new (n + 1) xs)
  go true rest = (tt, rest)
  go false rest = rest

pub keyless_inits : (ss : List SessionState) (inits : List InitData) → AllKeyless ss (map fire_encrypted inits)
keyless_inits ss [] = tt
keyless_inits ss (i ∷ inits) = (tt, keyless_inits ss inits)

keyless_kept : (ss : List SessionState) (ts : List Task) → AllKeyless ss ts → AllKeyless ss (filter is_kept ts)
keyless_kept ss [] all = tt
keyless_kept ss (task ∷ ts) all = go (is_kept task) (keyless_kept ss ts all.1) where
  go : (b : Bool) → AllKeyless ss (filter is_kept ts) → AllKeyless ss (if b then task ∷ filter is_kept ts else filter is_kept ts)
  go true rest = (all.0, rest)
  go false rest = rest

-- without the `waitingforkey` events
pub keyless_quiet : (m : Machine) → ClosersKeyless m → ClosersKeyless (quiet m)
keyless_quiet m all = keyless_kept m.sessions m.tasks all
