-- Which sessions come to hold a usable key: an update gives one, and so does the time; either queues what looks at the tracks that wait.
use Rattle.std.proofs.Common.{zero, suc, ◌≡◌, ℕ, ◌+◌, ◌⊎◌, inl, inr, Bool, true, false, ◌&&◌, ◌||◌, not, List, [], ◌∷◌, ◌++◌, map, length, Option, Some, None, is_some, Result, Ok, Err, refl, ap, sym, subst, ◌∙◌, arith, true≢false}
use Rattle.std.specs.Prelude.{slice_get, if◌then◌else◌, nat_lt, codes, ◌==◌}
use Rattle.std.specs.Str.{bytes_eq}
use Rattle.std.proofs.lemmas.Bool.Decides.{Decides-eqb}
use Rattle.std.proofs.lemmas.Slice.Eq.{bytes_eq-Decides}
use Rattle.eme_types.specs.declared.kid.KeyBytes.{KeyBytes}
use Rattle.eme_types.specs.declared.kid.Status.{Status}
use Rattle.eme_types.specs.declared.kid.Status.TheVariants.{Usable, Expired, Released, UsableInFuture}
use Rattle.eme_types.specs.declared.call.Settled.{Settled}
use Rattle.eme_types.specs.declared.call.Settled.TheVariants.{Resolved, ResolvedFalse, Rejected}
use Rattle.eme_types.specs.declared.call.DomError.{DomError}
use Rattle.eme_types.specs.declared.call.DomError.TheVariants.{InvalidState, TypeFault, NotSupported, Quota, UnknownLabel}
use Rattle.eme_types.specs.declared.call.AppCall.{AppCall}
use Rattle.eme_types.specs.declared.call.AppCall.TheVariants.{Access, Create, Request, Update, Close, Remove, Certificate}
use Rattle.eme_types.specs.declared.call.Event.TheVariants.{KeyStatuses, Message}
use Rattle.eme_types.specs.declared.call.Reason.{Reason}
use Rattle.eme_types.specs.declared.call.Reason.TheVariants.{ClosedByApplication, ResourceEvicted}
use Rattle.eme_types.specs.declared.media.InitKind.{InitKind}
use Rattle.clearkey_json.specs.declared.key_set.KeySet.{KeySet}
use Rattle.clearkey_json.specs.declared.key_set.KeySetFault.{KeySetFault}
use Rattle.clearkey_json.specs.KeySet.{key_set}
use Rattle.clearkey_json.specs.Request.{request_text}
use Rattle.init_data.specs.declared.fault.InitFault.{InitFault}
use Rattle.init_data.specs.InitData.{kids_of}
use Rattle.key_statuses.specs.declared.table.KnownKey.{KnownKey}
use Rattle.task_queue.specs.declared.work.Job.{Job}
use Rattle.task_queue.specs.declared.work.Job.TheVariants.{Request as RequestJob, Update as UpdateJob, Close as CloseJob, Remove as RemoveJob}
use Rattle.task_queue.specs.declared.work.Task.{Task}
use Rattle.task_queue.specs.declared.work.Task.TheVariants.{Reject, RequestDone, UpdateDone, CloseDone, RemoveDone, Evicted, Report, Fire, Resume}
use Rattle.key_statuses.specs.Table.{key_in, grant_all, released}
use Rattle.key_statuses.specs.Statuses.{is_usable, status_of, comes_before, insert_status, statuses_from, statuses, same_key, same_table, same_status, same_statuses, is_changed}
use Rattle.key_sessions.specs.Machine.{SessionState, Machine, new_session, session_at, status_at, change_at, change_session}
use Rattle.key_sessions.specs.Keys.{usable_key, key_of, held_in, held_key, or_else, pick_from, pick}
use Rattle.key_sessions.specs.Steps.{Done, unmoved, with_session, queue_task, statuses_now, update_statuses, closed_for, close_session}
use Rattle.key_system_access.specs.Configs.{configs_of}
use Rattle.key_sessions.specs.Calls.{access_result, answer_now, answer_later, create_call, add_session, find_label, is_ending, request_on, request_started, request_kind, start_request, update_on, update_or, or_empty, state_fault, close_on, start_closing, remove_on, remove_or, after_call}
use Rattle.key_sessions.specs.Jobs.{request_job, request_error, grant_set, with_set, is_changed_by, found, update_job, work_job, job_session, job_promise, is_evicted, take_job, cleared, without_keys}
use Rattle.key_sessions.specs.Evict.{evict_session, evict_on, after_evict}
use Rattle.key_sessions.specs.Tasks.{run_task, is_closed, next_id, made_callable, is_reported, reports_from, after_tick}
use Rattle.cdm_state.specs.Waiting.{will_resume, resume_queued}
use Rattle.cdm_state.proofs.TrackIds.{and_both}
use Rattle.cdm_state.proofs.Plain.{some_alone}

or_cases : (a b : Bool) → (a || b) ≡ true → (a ≡ true) ⊎ (b ≡ true)
or_cases true b e = inl refl
or_cases false b e = inr e

or_first : (a b : Bool) → a ≡ true → (a || b) ≡ true
or_first true b e = refl
or_first false b e = absurd cc

or_second : (a b : Bool) → b ≡ true → (a || b) ≡ true
or_second true b e = refl
or_second false b e = e

both_true : (a b : Bool) → a ≡ true → b ≡ true → (a && b) ≡ true
both_true true b e f = f
both_true false b e f = e

and_false : (b : Bool) → (b && false) ≡ false
and_false true = refl
and_false false = refl

-- one of the sessions holds a usable key under the id
abbrev pub any_usable : ℕ → List SessionState → List ℕ → Bool
any_usable moment [] kid = false
any_usable moment (s ∷ more) kid = is_some (usable_key moment s kid) || any_usable moment more kid

else_some : (u : Option KeyBytes) (n : ℕ) (rest : Option (ℕ × KeyBytes)) → is_some (or_else u n rest) ≡ (is_some u || is_some rest)
else_some None n rest = refl
else_some (Some key) n rest = refl

from_any : (moment n : ℕ) (ss : List SessionState) (kid : List ℕ) → is_some (pick_from moment n ss kid) ≡ any_usable moment ss kid
from_any moment n [] kid = refl
from_any moment n (s ∷ ss) kid = else_some (usable_key moment s kid) n (pick_from moment (n + 1) ss kid) ∙ ap (λ (b : Bool). is_some (usable_key moment s kid) || b) (from_any moment (n + 1) ss kid)

-- an id has a pick just where one of the sessions holds a usable key under it
pub picked_any : (m : Machine) (kid : List ℕ) → is_some (pick m kid) ≡ any_usable m.moment m.sessions kid
picked_any m kid = from_any m.moment 1 m.sessions kid

at_any : (moment : ℕ) (ss : List SessionState) (i : ℕ) (kid : List ℕ) (key : KeyBytes) → key_of moment (slice_get ss i) kid ≡ Some key → any_usable moment ss kid ≡ true
at_any moment [] i kid key e = absurd cc
at_any moment (s ∷ ss) zero kid key e = or_first (is_some (usable_key moment s kid)) (any_usable moment ss kid) (ap is_some e)
at_any moment (s ∷ ss) (suc i) kid key e = or_second (is_some (usable_key moment s kid)) (any_usable moment ss kid) (at_any moment ss i kid key e)

session_held : (moment : ℕ) (ss : List SessionState) (n : ℕ) (kid : List ℕ) (key : KeyBytes) → key_of moment (session_at ss n) kid ≡ Some key → any_usable moment ss kid ≡ true
session_held moment ss zero kid key e = absurd cc
session_held moment ss (suc i) kid key e = at_any moment ss i kid key e

-- an id under which a session holds a usable key has a pick
pub held_picked : (m : Machine) (session : ℕ) (kid : List ℕ) (key : KeyBytes) → held_key m session kid ≡ Some key → is_some (pick m kid) ≡ true
held_picked m session kid key e = picked_any m kid ∙ session_held m.moment m.sessions session kid key e

-- the session holds a usable key under the id
abbrev pub is_held : ℕ → List SessionState → ℕ → List ℕ → Bool
is_held moment ss session kid = is_some (held_in moment ss session kid)

-- so the id has a pick
pub held_some : (m : Machine) (session : ℕ) (kid : List ℕ) → is_held m.moment m.sessions session kid ≡ true → is_some (pick m kid) ≡ true
held_some m session kid e = go (held_key m session kid) refl e where
  go : (o : Option KeyBytes) → held_key m session kid ≡ o → is_some o ≡ true → is_some (pick m kid) ≡ true
  go None is e = absurd cc
  go (Some key) is e = held_picked m session kid key is

-- where no session gains a usable key
abbrev NoMore : ℕ → List SessionState → List SessionState → Type 0
NoMore moment old new = (session : ℕ) (kid : List ℕ) → is_held moment new session kid ≡ true → is_held moment old session kid ≡ true

change_held : (X : Type 0) (moment : ℕ) (f : SessionState → SessionState) (kid : List ℕ) (ss : List SessionState) (i j : ℕ) → ((s : SessionState) → slice_get ss i ≡ Some s → i ≡ j → is_some (usable_key moment (f s) kid) ≡ true → (is_some (usable_key moment s kid) ≡ true) ⊎ X) → is_some (key_of moment (slice_get (change_at ss i f) j) kid) ≡ true → (is_some (key_of moment (slice_get ss j) kid) ≡ true) ⊎ X
change_held X moment f kid [] i j one e = inl e
change_held X moment f kid (s ∷ ss) zero zero one e = one s refl refl e
change_held X moment f kid (s ∷ ss) zero (suc j) one e = inl e
change_held X moment f kid (s ∷ ss) (suc i) zero one e = inl e
change_held X moment f kid (s ∷ ss) (suc i) (suc j) one e = change_held X moment f kid ss i j (λ t at same u. one t at (ap suc same) u) e

session_held_after : (X : Type 0) (moment : ℕ) (f : SessionState → SessionState) (kid : List ℕ) (ss : List SessionState) (n session : ℕ) → ((s : SessionState) → session_at ss n ≡ Some s → n ≡ session → is_some (usable_key moment (f s) kid) ≡ true → (is_some (usable_key moment s kid) ≡ true) ⊎ X) → is_held moment (change_session ss n f) session kid ≡ true → (is_held moment ss session kid ≡ true) ⊎ X
session_held_after X moment f kid ss zero session one e = inl e
session_held_after X moment f kid ss (suc i) zero one e = inl e
session_held_after X moment f kid ss (suc i) (suc j) one e = change_held X moment f kid ss i j (λ t at same u. one t at (ap suc same) u) e

change_no_more : (moment : ℕ) (ss : List SessionState) (n : ℕ) (f : SessionState → SessionState) → ((s : SessionState) (kid : List ℕ) → is_some (usable_key moment (f s) kid) ≡ true → is_some (usable_key moment s kid) ≡ true) → NoMore moment ss (change_session ss n f)
change_no_more moment ss n f one session kid e = elim (session_held_after ⊥ moment f kid ss n session (λ s at same u. inl (one s kid u)) e) [ inl a ↦ a | inr x ↦ absurd x ]

new_at : (moment : ℕ) (ss : List SessionState) (label : List ℕ) (i : ℕ) (kid : List ℕ) → is_some (key_of moment (slice_get (ss ++ new_session label ∷ []) i) kid) ≡ true → is_some (key_of moment (slice_get ss i) kid) ≡ true
new_at moment [] label zero kid e = e
new_at moment [] label (suc i) kid e = e
new_at moment (s ∷ ss) label zero kid e = e
new_at moment (s ∷ ss) label (suc i) kid e = new_at moment ss label i kid e

new_no_more : (moment : ℕ) (ss : List SessionState) (label : List ℕ) → NoMore moment ss (ss ++ new_session label ∷ [])
new_no_more moment ss label zero kid e = e
new_no_more moment ss label (suc i) kid e = new_at moment ss label i kid e

-- the parts of a usable key
is_used : (closed u : Bool) (k : Option KeyBytes) → is_some (if closed then None else (if u then k else None)) ≡ true → (closed ≡ false) × (u ≡ true) × (is_some k ≡ true)
is_used true u k e = absurd cc
is_used false true k e = (refl, refl, e)
is_used false false k e = absurd cc

used_if : (closed u : Bool) (k : Option KeyBytes) → closed ≡ false → u ≡ true → is_some k ≡ true → is_some (if closed then None else (if u then k else None)) ≡ true
used_if true u k c v e = absurd cc
used_if false true k c v e = e
used_if false false k c v e = absurd cc

-- sessions that lose their keys
none_released : (ks : List KnownKey) (kid : List ℕ) → is_some (key_in (map released ks) kid) ≡ true → ⊥
none_released [] kid e = absurd cc
none_released (k ∷ ks) kid e = go (bytes_eq k.kid kid) e (λ f. none_released ks kid f) where
  go : (b : Bool) → is_some (if b then None else key_in (map released ks) kid) ≡ true → (is_some (key_in (map released ks) kid) ≡ true → ⊥) → ⊥
  go true e rest = absurd cc
  go false e rest = rest e

without_one : (moment : ℕ) (s : SessionState) (kid : List ℕ) → is_some (usable_key moment (without_keys s) kid) ≡ true → is_some (usable_key moment s kid) ≡ true
without_one moment s kid e = absurd (none_released s.keys kid (is_used s.closed true (key_in (map released s.keys) kid) e).2)

cleared_one : (moment : ℕ) (s : SessionState) (kid : List ℕ) → is_some (usable_key moment (cleared s) kid) ≡ true → is_some (usable_key moment s kid) ≡ true
cleared_one moment s kid e = (let none : false ≡ true = (is_used s.closed true None e).2 in absurd cc)

evicted_one : (moment : ℕ) (s : SessionState) (kid : List ℕ) → is_some (usable_key moment (evict_session s) kid) ≡ true → is_some (usable_key moment s kid) ≡ true
evicted_one moment s kid e = (let none : false ≡ true = (is_used s.closed true None e).2 in absurd cc)

-- a closed session, or one that is not there, holds nothing
closed_holds : (moment : ℕ) (o : Option SessionState) (kid : List ℕ) → is_closed o ≡ true → is_some (key_of moment o kid) ≡ true → ⊥
closed_holds moment None kid closed e = absurd cc
closed_holds moment (Some s) kid closed e = true≢false (sym closed ∙ (is_used s.closed (is_usable (status_at moment s)) (key_in s.keys kid) e).0)

-- The statuses of a table are those of its ids in one order, whatever the status of its held keys.

abbrev show : Status → KnownKey → List ℕ × Status
show held k = (k.kid, status_of k.key held)

abbrev sort_in : KnownKey → List KnownKey → List KnownKey
sort_in k [] = k ∷ []
sort_in k (t ∷ more) = if comes_before k.kid t.kid then k ∷ (t ∷ more) else t ∷ sort_in k more

abbrev sorted_from : List KnownKey → List KnownKey → List KnownKey
sorted_from list [] = list
sorted_from list (k ∷ more) = sorted_from (sort_in k list) more

insert_shown : (held : Status) (k : KnownKey) (list : List KnownKey) → insert_status (show held k) (map (show held) list) ≡ map (show held) (sort_in k list)
insert_shown held k [] = refl
insert_shown held k (t ∷ more) = go (comes_before k.kid t.kid) (insert_shown held k more) where
  go : (b : Bool) → insert_status (show held k) (map (show held) more) ≡ map (show held) (sort_in k more) → (if b then show held k ∷ (show held t ∷ map (show held) more) else show held t ∷ insert_status (show held k) (map (show held) more)) ≡ map (show held) (if b then k ∷ (t ∷ more) else t ∷ sort_in k more)
  go true rest = refl
  go false rest = ap (λ (xs : List (List ℕ × Status)). show held t ∷ xs) rest

from_shown : (held : Status) (list table : List KnownKey) → statuses_from (map (show held) list) table held ≡ map (show held) (sorted_from list table)
from_shown held list [] = refl
from_shown held list (k ∷ more) = ap (λ (xs : List (List ℕ × Status)). statuses_from xs more held) (insert_shown held k list) ∙ from_shown held (sort_in k list) more

-- a key is held
abbrev has_key : List KnownKey → Bool
has_key [] = false
has_key (k ∷ more) = is_some k.key || has_key more

has_sorted_in : (k : KnownKey) (list : List KnownKey) → (is_some k.key || has_key list) ≡ true → has_key (sort_in k list) ≡ true
has_sorted_in k [] e = e
has_sorted_in k (t ∷ more) e = go (comes_before k.kid t.kid) (λ f. has_sorted_in k more f) where
  go : (b : Bool) → ((is_some k.key || has_key more) ≡ true → has_key (sort_in k more) ≡ true) → has_key (if b then k ∷ (t ∷ more) else t ∷ sort_in k more) ≡ true
  go true rest = e
  go false rest = elim (or_cases (is_some k.key) (is_some t.key || has_key more) e) [
    | inl a ↦ or_second (is_some t.key) (has_key (sort_in k more)) (rest (or_first (is_some k.key) (has_key more) a))
    | inr b ↦ elim (or_cases (is_some t.key) (has_key more) b) [
      | inl c ↦ or_first (is_some t.key) (has_key (sort_in k more)) c
      | inr d ↦ or_second (is_some t.key) (has_key (sort_in k more)) (rest (or_second (is_some k.key) (has_key more) d))
    ]
  ]

has_sorted : (list table : List KnownKey) → (has_key list || has_key table) ≡ true → has_key (sorted_from list table) ≡ true
has_sorted list [] e = elim (or_cases (has_key list) false e) [ inl a ↦ a | inr b ↦ absurd cc ]
has_sorted list (k ∷ more) e =
    has_sorted (sort_in k list) more (elim (or_cases (has_key list) (is_some k.key || has_key more) e) [
      | inl a ↦ or_first (has_key (sort_in k list)) (has_key more) (has_sorted_in k list (or_second (is_some k.key) (has_key list) a))
      | inr b ↦ elim (or_cases (is_some k.key) (has_key more) b) [
        | inl c ↦ or_first (has_key (sort_in k list)) (has_key more) (has_sorted_in k list (or_first (is_some k.key) (has_key list) c))
        | inr d ↦ or_second (has_key (sort_in k list)) (has_key more) d
      ]
    ])

key_has : (table : List KnownKey) (kid : List ℕ) → is_some (key_in table kid) ≡ true → has_key table ≡ true
key_has [] kid e = e
key_has (k ∷ more) kid e = go (bytes_eq k.kid kid) e (λ f. key_has more kid f) where
  go : (b : Bool) → is_some (if b then k.key else key_in more kid) ≡ true → (is_some (key_in more kid) ≡ true → has_key more ≡ true) → (is_some k.key || has_key more) ≡ true
  go true e rest = or_first (is_some k.key) (has_key more) e
  go false e rest = or_second (is_some k.key) (has_key more) (rest e)

unlike : (held : Status) → is_usable held ≡ false → same_status held Usable ≡ false
unlike Usable off = absurd cc
unlike Expired off = refl
unlike Released off = refl
unlike UsableInFuture off = refl

shown_differ : (held : Status) (list : List KnownKey) → is_usable held ≡ false → has_key list ≡ true → same_statuses (map (show held) list) (map (show Usable) list) ≡ false
shown_differ held [] off e = absurd cc
shown_differ held (k ∷ more) off e = go k.key e (λ f. shown_differ held more off f) where
  go : (o : Option KeyBytes) → (is_some o || has_key more) ≡ true → (has_key more ≡ true → same_statuses (map (show held) more) (map (show Usable) more) ≡ false) → ((bytes_eq k.kid k.kid && same_status (status_of o held) (status_of o Usable)) && same_statuses (map (show held) more) (map (show Usable) more)) ≡ false
  go None e rest = rw (rest e) (and_false (bytes_eq k.kid k.kid && true))
  go (Some key) e rest = ap (λ (b : Bool). (bytes_eq k.kid k.kid && b) && same_statuses (map (show held) more) (map (show Usable) more)) (unlike held off) ∙ ap (λ (b : Bool). b && same_statuses (map (show held) more) (map (show Usable) more)) (and_false (bytes_eq k.kid k.kid))

same_key_is : (a b : Option KeyBytes) → same_key a b ≡ true → a ≡ b
same_key_is None None e = refl
same_key_is None (Some b) e = absurd cc
same_key_is (Some a) None e = absurd cc
same_key_is (Some a) (Some b) e = ap (λ (bs : List ℕ). let x : KeyBytes = record { bytes = bs } in Some x) ((bytes_eq-Decides a.bytes b.bytes).0 e)

same_table_is : (xs ys : List KnownKey) → same_table xs ys ≡ true → xs ≡ ys
same_table_is [] [] e = refl
same_table_is [] (y ∷ ys) e = absurd cc
same_table_is (x ∷ xs) [] e = absurd cc
same_table_is (x ∷ xs) (y ∷ ys) e =
    let a = and_both (bytes_eq x.kid y.kid && same_key x.key y.key) (same_table xs ys) e in
    let b = and_both (bytes_eq x.kid y.kid) (same_key x.key y.key) a.0 in
    let kid : x.kid ≡ y.kid = (bytes_eq-Decides x.kid y.kid).0 b.0 in
    let key : x.key ≡ y.key = same_key_is x.key y.key b.1 in
    let one : x ≡ y = ap (λ (k : List ℕ). let z : KnownKey = record { kid = k; key = x.key } in z) kid ∙ ap (λ (k : Option KeyBytes). let z : KnownKey = record { kid = y.kid; key = k } in z) key in
    ap (λ (z : KnownKey). z ∷ xs) one ∙ ap (λ (zs : List KnownKey). y ∷ zs) (same_table_is xs ys a.1)

usable_is : (s : Status) → is_usable s ≡ true → s ≡ Usable
usable_is Usable e = refl
usable_is Expired e = absurd cc
usable_is Released e = absurd cc
usable_is UsableInFuture e = absurd cc

statuses_unlike : (old new : List KnownKey) (before after : Status) (kid : List ℕ) → old ≡ new → is_usable before ≡ false → is_usable after ≡ true → is_some (key_in new kid) ≡ true → same_statuses (statuses old before) (statuses new after) ≡ false
statuses_unlike old new before after kid same off on some =
    let was : statuses old before ≡ map (show before) (sorted_from [] old) = from_shown before [] old in
    let now : statuses new after ≡ map (show Usable) (sorted_from [] old) = ap (λ (ks : List KnownKey). statuses ks after) (sym same) ∙ (ap (λ (s : Status). statuses old s) (usable_is after on) ∙ from_shown Usable [] old) in
    let has : has_key (sorted_from [] old) ≡ true = has_sorted [] old (key_has old kid (subst (λ (ks : List KnownKey). is_some (key_in ks kid) ≡ true) (sym same) some)) in
    ap (λ (xs : List (List ℕ × Status)). same_statuses xs (statuses new after)) was ∙ (ap (λ (xs : List (List ℕ × Status)). same_statuses (map (show before) (sorted_from [] old)) xs) now ∙ shown_differ before (sorted_from [] old) off has)

-- a key that becomes usable is a change of the table or of its statuses
change_seen : (closed : Bool) (old new : List KnownKey) (before after : Status) (kid : List ℕ) → is_some (if closed then None else (if is_usable after then key_in new kid else None)) ≡ true → (is_some (if closed then None else (if is_usable before then key_in old kid else None)) ≡ true) ⊎ (is_changed old before new after ≡ true)
change_seen closed old new before after kid e = go (is_used closed (is_usable after) (key_in new kid) e) (same_table old new) refl (is_usable before) refl where
  go : (closed ≡ false) × (is_usable after ≡ true) × (is_some (key_in new kid) ≡ true) → (t : Bool) → same_table old new ≡ t → (u : Bool) → is_usable before ≡ u → (is_some (if closed then None else (if is_usable before then key_in old kid else None)) ≡ true) ⊎ (is_changed old before new after ≡ true)
  go parts false t u v = inr (ap (λ (x : Bool). not (x && same_statuses (statuses old before) (statuses new after))) t)
  go parts true t true v = inl (used_if closed (is_usable before) (key_in old kid) parts.0 v (subst (λ (ks : List KnownKey). is_some (key_in ks kid) ≡ true) (sym (same_table_is old new t)) parts.2))
  go parts true t false v = inr (ap (λ (x : Bool). not (x && same_statuses (statuses old before) (statuses new after))) t ∙ ap not (statuses_unlike old new before after kid (same_table_is old new t) v parts.1 parts.2))

-- What looks at the tracks that wait: a `Resume`, and an update or a report that will queue one.

pub queued_left : (session : ℕ) (ts us : List Task) → resume_queued session ts ≡ true → resume_queued session (ts ++ us) ≡ true
queued_left session [] us e = absurd cc
queued_left session (t ∷ ts) us e =
    elim (or_cases (will_resume session t) (resume_queued session ts) e) [
      | inl a ↦ or_first (will_resume session t) (resume_queued session (ts ++ us)) a
      | inr b ↦ or_second (will_resume session t) (resume_queued session (ts ++ us)) (queued_left session ts us b)
    ]

queued_right : (session : ℕ) (ts us : List Task) → resume_queued session us ≡ true → resume_queued session (ts ++ us) ≡ true
queued_right session [] us e = e
queued_right session (t ∷ ts) us e = or_second (will_resume session t) (resume_queued session (ts ++ us)) (queued_right session ts us e)

-- from one machine to the next: of a session that holds a usable key after it what is to resume stays queued, and where the key is new it is queued
pub record Carries (before : List Task) (m n : Machine) : Type 0 where
  pub queued : (session : ℕ) (kid : List ℕ) → is_held n.moment n.sessions session kid ≡ true → resume_queued session before ≡ true → resume_queued session n.tasks ≡ true
  pub held : (session : ℕ) (kid : List ℕ) → is_held n.moment n.sessions session kid ≡ true → (is_held m.moment m.sessions session kid ≡ true) ⊎ (resume_queued session n.tasks ≡ true)

pub carries_same : (m : Machine) → Carries m.tasks m m
carries_same m = record { queued = λ session kid now e. e; held = λ session kid e. inl e }

-- a call
carries_now : (m : Machine) (ss : List SessionState) (how : Settled) → NoMore m.moment m.sessions ss → Carries m.tasks m (answer_now how (record m { sessions = ss })).machine
carries_now m ss how none = record { queued = λ session kid now e. e; held = λ session kid e. inl (none session kid e) }

carries_later : (m : Machine) (ss : List SessionState) (job : ℕ → Job) → NoMore m.moment m.sessions ss → Carries m.tasks m (answer_later job (record m { sessions = ss })).machine
carries_later m ss job none = record { queued = λ session kid now e. e; held = λ session kid e. inl (none session kid e) }

all_same : (m : Machine) → NoMore m.moment m.sessions m.sessions
all_same m session kid e = e

choose : (m : Machine) (b : Bool) (x y : Done) → Carries m.tasks m x.machine → Carries m.tasks m y.machine → Carries m.tasks m (if b then x else y).machine
choose m true x y p q = p
choose m false x y p q = q

carries_create : (m : Machine) (label kind : List ℕ) → Carries m.tasks m (create_call label kind m).machine
carries_create m label kind = choose m (bytes_eq kind (codes "temporary")) _ _ (choose m (nat_lt (length m.sessions) 64) _ _ (carries_now m (add_session label m).sessions Resolved (new_no_more m.moment m.sessions label)) (carries_now m m.sessions (Rejected Quota) (all_same m))) (carries_now m m.sessions (Rejected NotSupported) (all_same m))

carries_started : (m : Machine) (ss : List SessionState) (n : ℕ) (init : List ℕ) (r : Result InitKind DomError) → NoMore m.moment m.sessions ss → Carries m.tasks m (request_started n init r (record m { sessions = ss })).machine
carries_started m ss n init (Err error) none = carries_now m ss (Rejected error) none
carries_started m ss n init (Ok kind) none = carries_later m ss (λ p. RequestJob n kind init p) none

carries_request : (m : Machine) (kind init : List ℕ) (o : Option (ℕ × SessionState)) → Carries m.tasks m (request_on kind init m o).machine
carries_request m kind init None = carries_now m m.sessions (Rejected UnknownLabel) (all_same m)
carries_request m kind init (Some (n, s)) = choose m (is_ending s) _ _ (carries_now m m.sessions (Rejected InvalidState) (all_same m)) (choose m s.uninitialized _ _ (carries_started m (change_session m.sessions n start_request) n init (request_kind kind init) (change_no_more m.moment m.sessions n start_request (λ t kid e. e))) (carries_now m m.sessions (Rejected InvalidState) (all_same m)))

carries_update_or : (m : Machine) (n : ℕ) (response : List ℕ) (o : Option DomError) → Carries m.tasks m (update_or n response o m).machine
carries_update_or m n response (Some error) = carries_now m m.sessions (Rejected error) (all_same m)
carries_update_or m n response None = carries_later m m.sessions (λ p. UpdateJob n response p) (all_same m)

carries_update : (m : Machine) (response : List ℕ) (o : Option (ℕ × SessionState)) → Carries m.tasks m (update_on response m o).machine
carries_update m response None = carries_now m m.sessions (Rejected UnknownLabel) (all_same m)
carries_update m response (Some (n, s)) = carries_update_or m n response (or_empty (state_fault s) response)

carries_close : (m : Machine) (o : Option (ℕ × SessionState)) → Carries m.tasks m (close_on m o).machine
carries_close m None = carries_now m m.sessions (Rejected UnknownLabel) (all_same m)
carries_close m (Some (n, s)) = choose m (is_ending s) _ _ (carries_now m m.sessions Resolved (all_same m)) (choose m s.callable _ _ (carries_later m (change_session m.sessions n start_closing) (λ p. CloseJob n p) (change_no_more m.moment m.sessions n start_closing (λ t kid e. e))) (carries_now m m.sessions (Rejected InvalidState) (all_same m)))

carries_remove_or : (m : Machine) (n : ℕ) (o : Option DomError) → Carries m.tasks m (remove_or n o m).machine
carries_remove_or m n (Some error) = carries_now m m.sessions (Rejected error) (all_same m)
carries_remove_or m n None = carries_later m m.sessions (λ p. RemoveJob n p) (all_same m)

carries_remove : (m : Machine) (o : Option (ℕ × SessionState)) → Carries m.tasks m (remove_on m o).machine
carries_remove m None = carries_now m m.sessions (Rejected UnknownLabel) (all_same m)
carries_remove m (Some (n, s)) = carries_remove_or m n (state_fault s)

pub carries_call : (m : Machine) (call : AppCall) → Carries m.tasks m (after_call call m).machine
carries_call m (Access name list) = carries_now m m.sessions (access_result name (configs_of list)) (all_same m)
carries_call m (Create label kind) = carries_create m label kind
carries_call m (Request label kind init) = carries_request m kind init (find_label m label)
carries_call m (Update label response) = carries_update m response (find_label m label)
carries_call m (Close label) = carries_close m (find_label m label)
carries_call m (Remove label) = carries_remove m (find_label m label)
carries_call m (Certificate cert) = carries_now m m.sessions ResolvedFalse (all_same m)

-- a job queues one task
carries_queue : (m : Machine) (ss : List SessionState) (js : List Job) (task : Task) → NoMore m.moment m.sessions ss → Carries m.tasks m (record m { sessions = ss; jobs = js; tasks = m.tasks ++ task ∷ [] })
carries_queue m ss js task none = record { queued = λ session kid now e. queued_left session m.tasks (task ∷ []) e; held = λ session kid e. inl (none session kid e) }

carries_request_job : (m : Machine) (n p : ℕ) (js : List Job) (r : Result (List (List ℕ)) InitFault) → Carries m.tasks m (request_job n p r (record m { jobs = js }))
carries_request_job m n p js (Ok kids) = carries_queue m m.sessions js (RequestDone n kids p) (all_same m)
carries_request_job m n p js (Err fault) = carries_queue m m.sessions js (Reject p (request_error fault)) (all_same m)

-- the session of the job is the one that is changed
set_seen : (moment : ℕ) (ss : List SessionState) (n : ℕ) (set : KeySet) (kid : List ℕ) (s : SessionState) → session_at ss n ≡ Some s → is_some (usable_key moment (with_set set s) kid) ≡ true → (is_some (usable_key moment s kid) ≡ true) ⊎ (is_changed_by moment (found (session_at ss n)) (with_set set (found (session_at ss n))) ≡ true)
set_seen moment ss n set kid s at e =
    let same : found (session_at ss n) ≡ s = ap found at in
    elim (change_seen s.closed s.keys (with_set set s).keys (status_at moment s) (status_at moment (with_set set s)) kid e) [
      | inl a ↦ inl a
      | inr c ↦ inr (subst (λ (t : SessionState). is_changed_by moment t (with_set set t) ≡ true) (sym same) c)
    ]

seen_there : {A B C : Type 0} → A ⊎ B → C → A ⊎ (B × C)
seen_there (inl a) c = inl a
seen_there (inr b) c = inr (b, c)

carries_grant : (m : Machine) (n p : ℕ) (set : KeySet) (js : List Job) → Carries m.tasks m (grant_set n p set (found (session_at m.sessions n)) (record m { jobs = js }))
carries_grant m n p set js = go (nat_lt 256 (length (grant_all (found (session_at m.sessions n)).keys set.keys))) where
  go : (b : Bool) → Carries m.tasks m (if b then queue_task (Reject p Quota) (record m { jobs = js }) else queue_task (UpdateDone n (is_changed_by m.moment (found (session_at m.sessions n)) (with_set set (found (session_at m.sessions n)))) p) (with_session n (with_set set) (record m { jobs = js })))
  go true = carries_queue m m.sessions js (Reject p Quota) (all_same m)
  go false = record {
    queued = λ session kid now e. queued_left session m.tasks (UpdateDone n (is_changed_by m.moment (found (session_at m.sessions n)) (with_set set (found (session_at m.sessions n)))) p ∷ []) e;
    held = λ session kid e. elim (session_held_after ((is_changed_by m.moment (found (session_at m.sessions n)) (with_set set (found (session_at m.sessions n))) ≡ true) × (n ≡ session)) m.moment (with_set set) kid m.sessions n session (λ s at same u. seen_there (set_seen m.moment m.sessions n set kid s at u) same) e) [
      | inl a ↦ inl a
      | inr c ↦ inr (queued_right session m.tasks (UpdateDone n (is_changed_by m.moment (found (session_at m.sessions n)) (with_set set (found (session_at m.sessions n)))) p ∷ []) (or_first (will_resume session (UpdateDone n (is_changed_by m.moment (found (session_at m.sessions n)) (with_set set (found (session_at m.sessions n)))) p)) false (both_true (is_changed_by m.moment (found (session_at m.sessions n)) (with_set set (found (session_at m.sessions n)))) (n == session) c.0 ((Decides-eqb n session).1 c.1))))
    ];
  }

carries_update_job : (m : Machine) (n p : ℕ) (js : List Job) (r : Result KeySet KeySetFault) → Carries m.tasks m (update_job n p r (record m { jobs = js }))
carries_update_job m n p js (Ok set) = carries_grant m n p set js
carries_update_job m n p js (Err fault) = carries_queue m m.sessions js (Reject p TypeFault) (all_same m)

carries_work : (m : Machine) (job : Job) (js : List Job) → Carries m.tasks m (work_job job (record m { jobs = js }))
carries_work m (RequestJob n kind init p) js = carries_request_job m n p js (kids_of kind init)
carries_work m (UpdateJob n response p) js = carries_update_job m n p js (key_set response)
carries_work m (CloseJob n p) js = carries_queue m (change_session m.sessions n cleared) js (CloseDone n p) (change_no_more m.moment m.sessions n cleared (cleared_one m.moment))
carries_work m (RemoveJob n p) js = carries_queue m (change_session m.sessions n without_keys) js (RemoveDone n p) (change_no_more m.moment m.sessions n without_keys (without_one m.moment))

choose_machine : (m : Machine) (b : Bool) (x y : Machine) → Carries m.tasks m x → Carries m.tasks m y → Carries m.tasks m (if b then x else y)
choose_machine m true x y p q = p
choose_machine m false x y p q = q

-- the job of an evicted session queues a refusal
carries_take : (m : Machine) (js : List Job) → Carries m.tasks m (take_job js m)
carries_take m [] = carries_same m
carries_take m (job ∷ js) = choose_machine m (is_evicted (session_at m.sessions (job_session job))) _ _ (carries_queue m m.sessions js (Reject (job_promise job) InvalidState) (all_same m)) (carries_work m job js)

pub carries_job : (m : Machine) → Carries m.tasks m (take_job m.jobs m)
carries_job m = carries_take m m.jobs

-- an eviction queues one task
carries_evict_on : (m : Machine) (o : Option (ℕ × SessionState)) → Carries m.tasks m (evict_on m o)
carries_evict_on m None = carries_same m
carries_evict_on m (Some (n, s)) = choose_machine m (is_ending s) _ _ (carries_same m) (carries_queue m (change_session m.sessions n evict_session) m.jobs (Evicted n) (change_no_more m.moment m.sessions n evict_session (evicted_one m.moment)))

pub carries_evict : (m : Machine) (label : List ℕ) → Carries m.tasks m (after_evict label m).machine
carries_evict m label = carries_evict_on m (find_label m label)

-- a key that the time makes usable is a change of its session's statuses
time_seen : (old new : ℕ) (s : SessionState) (kid : List ℕ) → is_some (usable_key new s kid) ≡ true → (is_some (usable_key old s kid) ≡ true) ⊎ (is_reported old new s ≡ true)
time_seen old new s kid e = go (is_used s.closed (is_usable (status_at new s)) (key_in s.keys kid) e) (is_usable (status_at old s)) refl where
  go : (s.closed ≡ false) × (is_usable (status_at new s) ≡ true) × (is_some (key_in s.keys kid) ≡ true) → (u : Bool) → is_usable (status_at old s) ≡ u → (is_some (usable_key old s kid) ≡ true) ⊎ (is_reported old new s ≡ true)
  go parts true was = inl (used_if s.closed (is_usable (status_at old s)) (key_in s.keys kid) parts.0 was parts.2)
  go parts false was = inr (both_true (not s.closed) (not (same_statuses (statuses s.keys (status_at old s)) (statuses s.keys (status_at new s)))) (ap not parts.0) (ap not (statuses_unlike s.keys s.keys (status_at old s) (status_at new s) kid refl was parts.1 parts.2)))

-- a report that is due is queued
report_due : (old new n i session : ℕ) (ss : List SessionState) (s : SessionState) → session ≡ n + i → slice_get ss i ≡ Some s → is_reported old new s ≡ true → resume_queued session (reports_from old new n ss) ≡ true
report_due old new n i session [] s is at due = absurd cc
report_due old new n zero session (t ∷ ss) s is at due =
    let here : is_reported old new t ≡ true = ap (λ (x : SessionState). is_reported old new x) (some_alone t s at) ∙ due in
    let same : n ≡ session = omega (arith, is) in
    rw here (or_first (n == session) (resume_queued session (reports_from old new (n + 1) ss)) ((Decides-eqb n session).1 same))
report_due old new n (suc i) session (t ∷ ss) s is at due = go (is_reported old new t) (report_due old new (n + 1) i session ss s (omega (arith, is)) at due) where
  go : (b : Bool) → resume_queued session (reports_from old new (n + 1) ss) ≡ true → resume_queued session (if b then Report n ∷ reports_from old new (n + 1) ss else reports_from old new (n + 1) ss) ≡ true
  go true rest = or_second (n == session) (resume_queued session (reports_from old new (n + 1) ss)) rest
  go false rest = rest

time_held : (old new : ℕ) (ss : List SessionState) (session : ℕ) (kid : List ℕ) → is_held new ss session kid ≡ true → (is_held old ss session kid ≡ true) ⊎ (resume_queued session (reports_from old new 1 ss) ≡ true)
time_held old new ss zero kid e = inl e
time_held old new ss (suc i) kid e = go (slice_get ss i) refl e where
  go : (o : Option SessionState) → slice_get ss i ≡ o → is_some (key_of new o kid) ≡ true → (is_some (key_of old o kid) ≡ true) ⊎ (resume_queued (suc i) (reports_from old new 1 ss) ≡ true)
  go None at u = inl u
  go (Some s) at u = elim (time_seen old new s kid u) [ inl was ↦ inl was | inr due ↦ inr (report_due old new 1 i (suc i) ss s (omega arith) at due) ]

pub carries_tick : (m : Machine) (moment : ℕ) → Carries m.tasks m (after_tick moment m).machine
carries_tick m moment = record {
  queued = λ session kid now e. queued_left session m.tasks (reports_from m.moment moment 1 m.sessions) e;
  held = λ session kid e. elim (time_held m.moment moment m.sessions session kid e) [ inl was ↦ inl was | inr due ↦ inr (queued_right session m.tasks (reports_from m.moment moment 1 m.sessions) due) ];
}

-- more tasks
pub carries_more : (m : Machine) (more : List Task) → Carries m.tasks m (record m { tasks = m.tasks ++ more })
carries_more m more = record { queued = λ session kid now e. queued_left session m.tasks more e; held = λ session kid e. inl e }

-- a task: it queues nothing, or the event and the `Resume` of 'Update Key Statuses'
reported_no_more : (m : Machine) (n : ℕ) → NoMore m.moment m.sessions (change_session m.sessions n (statuses_now m.moment))
reported_no_more m n = change_no_more m.moment m.sessions n (statuses_now m.moment) (λ s kid e. e)

closed_no_more : (moment : ℕ) (ss : List SessionState) (n : ℕ) (reason : Reason) → NoMore moment ss (change_session ss n (closed_for reason))
closed_no_more moment ss n reason = change_no_more moment ss n (closed_for reason) (λ s kid e. absurd cc)

resumes_last : (n session : ℕ) (ts : List Task) → resume_queued session ((ts ++ Fire (KeyStatuses n) ∷ []) ++ Resume ∷ []) ≡ true
resumes_last n session ts = queued_right session (ts ++ Fire (KeyStatuses n) ∷ []) (Resume ∷ []) refl

-- the reported statuses of a session become those of its table, and it is closed
carries_end : (m : Machine) (n : ℕ) (reason : Reason) (before ts : List Task) → Carries before m (close_session n reason (update_statuses n (unmoved (record m { tasks = ts })))).machine
carries_end m n reason before ts = record {
  queued = λ session kid now e. resumes_last n session ts;
  held = λ session kid e. inl (reported_no_more m n session kid (closed_no_more m.moment (change_session m.sessions n (statuses_now m.moment)) n reason session kid e));
}

-- a report queues a `Resume`, or its session is closed and holds nothing
carries_report : (m : Machine) (n : ℕ) (ts : List Task) → Carries (Report n ∷ ts) m (run_task (Report n) (record m { tasks = ts })).machine
carries_report m n ts = go (is_closed (session_at m.sessions n)) refl where
  go : (b : Bool) → is_closed (session_at m.sessions n) ≡ b → Carries (Report n ∷ ts) m (if b then unmoved (record m { tasks = ts }) else update_statuses n (unmoved (record m { tasks = ts }))).machine
  go true closed = record {
    queued = λ session kid now e. elim (or_cases (n == session) (resume_queued session ts) e) [
      | inl own ↦ absurd (closed_holds m.moment (session_at m.sessions session) kid (subst (λ (k : ℕ). is_closed (session_at m.sessions k) ≡ true) ((Decides-eqb n session).0 own) closed) now)
      | inr rest ↦ rest
    ];
    held = λ session kid e. inl e;
  }
  go false closed = record { queued = λ session kid now e. resumes_last n session ts; held = λ session kid e. inl (reported_no_more m n session kid e) }

pub carries_task : (m : Machine) (task : Task) (ts : List Task) → (task ≡ Resume → ⊥) → Carries (task ∷ ts) m (run_task task (record m { tasks = ts })).machine
carries_task m (Reject p error) ts other = record { queued = λ session kid now e. e; held = λ session kid e. inl e }
carries_task m (RequestDone n kids p) ts other = record {
  queued = λ session kid now e. queued_left session ts (Fire (Message n (next_id m) (request_text kids)) ∷ []) e;
  held = λ session kid e. inl (change_no_more m.moment m.sessions n (made_callable (next_id m)) (λ s k u. u) session kid e);
}
carries_task m (UpdateDone n true p) ts other = record {
  queued = λ session kid now e. resumes_last n session ts;
  held = λ session kid e. inl (reported_no_more m n session kid e);
}
carries_task m (UpdateDone n false p) ts other = record { queued = λ session kid now e. e; held = λ session kid e. inl e }
carries_task m (CloseDone n p) ts other = (let c = carries_end m n ClosedByApplication (CloseDone n p ∷ ts) ts in record { queued = c.queued; held = c.held })
carries_task m (RemoveDone n p) ts other = record { queued = λ session kid now e. resumes_last n session ts; held = λ session kid e. inl (reported_no_more m n session kid e) }
carries_task m (Evicted n) ts other = carries_end m n ResourceEvicted (Evicted n ∷ ts) ts
carries_task m (Report n) ts other = carries_report m n ts
carries_task m (Fire event) ts other = record { queued = λ session kid now e. e; held = λ session kid e. inl e }
carries_task m Resume ts other = absurd (other refl)
