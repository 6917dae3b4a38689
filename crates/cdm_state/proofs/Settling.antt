-- Over a legal history each promise is settled at most once, and none is left at rest.
use Rattle.std.proofs.Common.{zero, suc, ◌≡◌, ℕ, ◌+◌, ◌<◌, ◌≤◌, Bool, true, false, List, [], ◌∷◌, ◌++◌, map, length, length-append, Option, Some, None, refl, ap, sym, subst, ◌∙◌, arith, inl, inr}
use Rattle.std.specs.Prelude.{if◌then◌else◌}
use Rattle.std.specs.List.{fold}
use Rattle.std.proofs.lemmas.List.Sums.{sum_by-append}
use Rattle.eme_types.specs.declared.call.Effect.{Effect}
use Rattle.eme_types.specs.declared.media.Fragment.{Fragment}
use Rattle.eme_types.specs.declared.media.InitData.{InitData}
use Rattle.eme_types.specs.declared.entry.Entry.{Entry}
use Rattle.eme_types.specs.declared.entry.Entry.TheVariants.{Call, Job, Task, Tick, Feed, Evict, Claim, Deliver, GiveUp, Publish, PassClear, WaitForKey, Settle}
use Rattle.key_sessions.specs.Machine.{Machine}
use Rattle.task_queue.specs.declared.work.Task.TheVariants.{Fire}
use Rattle.eme_types.specs.declared.call.Event.TheVariants.{WaitingForKey}
use Rattle.key_sessions.specs.Steps.{Done, unmoved}
use Rattle.key_sessions.specs.Calls.{after_call}
use Rattle.key_sessions.specs.Jobs.{after_job}
use Rattle.key_sessions.specs.Evict.{after_evict}
use Rattle.key_sessions.specs.Tasks.{after_task, after_tick}
use Rattle.key_sessions.specs.World.{World, empty_world}
use Rattle.cdm_state.specs.After.{step, after_entry, effects_of, feed_step, wait_step, fire_encrypted}
use Rattle.std.proofs.lemmas.Bool.Decides.{eqb_tells}
use Rattle.std.proofs.Math.Nat.{eq-or-lt_of_le}
use Rattle.cdm_state.specs.History.{world, IsLegal, Allowed}
use Rattle.cdm_state.specs.Settlements.{settling, settlements, settlements_from, is_call, calls_in}
use Rattle.cdm_state.specs.Law.{SettlesAtMostOnce, SettlesEachOnce, OwesEachOnce}
use Rattle.key_sessions.specs.Owed.{settles, one_if, jobs_owe, tasks_owe, pending, IsOwed, times_settled, Asked, Steady}
use Rattle.key_sessions.proofs.Owed.{one_same, one_other, one_within, tasks_more}
use Rattle.key_sessions.proofs.OwedSteps.{asked_call, steady_job, steady_front, steady_tick, steady_evict, steady_same}
use Rattle.cdm_state.proofs.Histories.{world_more, legal_induction}

events_owe : (p : ℕ) (inits : List InitData) → tasks_owe p (map fire_encrypted inits) ≡ 0
events_owe p [] = refl
events_owe p (x ∷ inits) = omega (arith, events_owe p inits)

length-settling : (p : ℕ) (e : Entry) (xs : List Effect) → length (settling p e xs) ≡ times_settled p xs
length-settling p e [] = refl
length-settling p e (x ∷ xs) = go (settles p x) (length-settling p e xs) where
  go : (b : Bool) → length (settling p e xs) ≡ times_settled p xs → length (if b then e ∷ settling p e xs else settling p e xs) ≡ (if b then 1 + times_settled p xs else times_settled p xs)
  go true rest = omega (arith, rest)
  go false rest = rest

settlements_more : (w : World) (p : ℕ) (h : List Entry) (e : Entry) → length (settlements_from w p (h ++ e ∷ [])) ≡ length (settlements_from w p h) + times_settled p (effects_of (fold after_entry w h) e)
settlements_more w p [] e = length-append (settling p e (effects_of w e)) [] ∙ omega (arith, length-settling p e (effects_of w e))
settlements_more w p (x ∷ h) e = length-append (settling p x (effects_of w x)) (settlements_from (after_entry w x) p (h ++ e ∷ [])) ∙ omega (arith, length-append (settling p x (effects_of w x)) (settlements_from (after_entry w x) p h), settlements_more (after_entry w x) p h e)

-- 1 for the number of a promise that was made
abbrev made : ℕ → ℕ → ℕ
made zero p = 0
made (suc n) p = made n p + one_if (suc n) p

-- what is known after each legal history
record Known (ids : List ℕ) (h : List Entry) : Type 0 where
  promises : length (world ids h).machine.promises ≡ calls_in h
  owed : IsOwed (world ids h).machine
  settled : (p : ℕ) → length (settlements ids h p) + pending (world ids h).machine.promises p ≡ made (calls_in h) p

calls_more : (h : List Entry) (e : Entry) → calls_in (h ++ e ∷ []) ≡ calls_in h + is_call e
calls_more h e = sum_by-append is_call h (e ∷ []) ∙ omega arith

settled_more : (ids : List ℕ) (h : List Entry) (e : Entry) (p : ℕ) → length (settlements ids (h ++ e ∷ []) p) ≡ length (settlements ids h p) + times_settled p (effects_of (world ids h) e)
unfolding settlements world
settled_more ids h e p = settlements_more (empty_world ids) p h e

known_steady : (ids : List ℕ) (h : List Entry) (e : Entry) (d : Done) → is_call e ≡ 0 → (step (world ids h) e).world.machine ≡ d.machine → (step (world ids h) e).effects ≡ d.effects → Steady (world ids h).machine d → Known ids h → Known ids (h ++ e ∷ [])
known_steady ids h e d none machine effects s k =
    let m : (world ids (h ++ e ∷ [])).machine ≡ d.machine = ap (λ (v : World). v.machine) (world_more ids h e) ∙ machine in
    let c : calls_in (h ++ e ∷ []) ≡ calls_in h = omega (arith, calls_more h e, none) in
    record {
      promises = ap (λ (x : Machine). length x.promises) m ∙ (s.more ∙ (k.promises ∙ sym c));
      owed = subst IsOwed (sym m) s.owed;
      settled = λ p.
          let t : times_settled p (effects_of (world ids h) e) ≡ times_settled p d.effects = ap (λ (xs : List Effect). times_settled p xs) effects in
          let q : pending (world ids (h ++ e ∷ [])).machine.promises p ≡ pending d.machine.promises p = ap (λ (x : Machine). pending x.promises p) m in
          let f : made (calls_in (h ++ e ∷ [])) p ≡ made (calls_in h) p = ap (λ n. made n p) c in
          omega (arith, settled_more ids h e p, t, q, f, s.balance p, k.settled p);
    }

known_asked : (ids : List ℕ) (h : List Entry) (e : Entry) (d : Done) → is_call e ≡ 1 → (step (world ids h) e).world.machine ≡ d.machine → (step (world ids h) e).effects ≡ d.effects → Asked (world ids h).machine d → Known ids h → Known ids (h ++ e ∷ [])
known_asked ids h e d one machine effects s k =
    let m : (world ids (h ++ e ∷ [])).machine ≡ d.machine = ap (λ (v : World). v.machine) (world_more ids h e) ∙ machine in
    let c : calls_in (h ++ e ∷ []) ≡ suc (calls_in h) = omega (arith, calls_more h e, one) in
    let l : length (world ids h).machine.promises + 1 ≡ suc (calls_in h) = omega (arith, k.promises) in
    record {
      promises = ap (λ (x : Machine). length x.promises) m ∙ (s.more ∙ (l ∙ sym c));
      owed = subst IsOwed (sym m) (s.owed k.owed);
      settled = λ p.
          let t : times_settled p (effects_of (world ids h) e) ≡ times_settled p d.effects = ap (λ (xs : List Effect). times_settled p xs) effects in
          let q : pending (world ids (h ++ e ∷ [])).machine.promises p ≡ pending d.machine.promises p = ap (λ (x : Machine). pending x.promises p) m in
          let f : made (calls_in (h ++ e ∷ [])) p ≡ made (suc (calls_in h)) p = ap (λ n. made n p) c in
          let o : one_if (length (world ids h).machine.promises + 1) p ≡ one_if (suc (calls_in h)) p = ap (λ n. one_if n p) l in
          omega (arith, settled_more ids h e p, t, q, f, o, s.balance p, k.settled p);
    }

fed_steady : (w : World) (f : Option Fragment) → IsOwed w.machine → Steady w.machine (unmoved (feed_step w f).machine)
fed_steady w None owed = steady_same w.machine owed
fed_steady w (Some f) owed = record {
  owed = λ p. omega (arith, owed p, tasks_more p w.machine.tasks (map fire_encrypted f.inits), events_owe p f.inits);
  balance = λ p. omega arith;
  more = refl;
}

waiting_steady : (w : World) (track : ℕ) → IsOwed w.machine → Steady w.machine (unmoved (wait_step w track).machine)
waiting_steady w track owed = record {
  owed = λ p. omega (arith, owed p, tasks_more p w.machine.tasks (Fire (WaitingForKey track) ∷ []));
  balance = λ p. omega arith;
  more = refl;
}

known_more : (ids : List ℕ) (h : List Entry) (e : Entry) → IsLegal ids h → Allowed ids h e → Known ids h → Known ids (h ++ e ∷ [])
known_more ids h (Call lane line call) legal allowed k = known_asked ids h (Call lane line call) (after_call call (world ids h).machine) refl refl refl (asked_call (world ids h).machine call) k
known_more ids h Job legal allowed k = known_steady ids h Job (after_job (world ids h).machine) refl refl refl (steady_job (world ids h).machine k.owed) k
known_more ids h Task legal allowed k = known_steady ids h Task (after_task (world ids h).machine) refl refl refl (steady_front (world ids h).machine k.owed) k
known_more ids h (Tick line moment) legal allowed k = known_steady ids h (Tick line moment) (after_tick moment (world ids h).machine) refl refl refl (steady_tick (world ids h).machine moment k.owed) k
known_more ids h (Feed line f) legal allowed k = known_steady ids h (Feed line f) (unmoved (feed_step (world ids h) f).machine) refl refl refl (fed_steady (world ids h) f k.owed) k
known_more ids h (Evict line label) legal allowed k = known_steady ids h (Evict line label) (after_evict label (world ids h).machine) refl refl refl (steady_evict (world ids h).machine label k.owed) k
known_more ids h (Claim worker track index session kid) legal allowed k = known_steady ids h (Claim worker track index session kid) (unmoved (world ids h).machine) refl refl refl (steady_same (world ids h).machine k.owed) k
known_more ids h (Deliver place verdict) legal allowed k = known_steady ids h (Deliver place verdict) (unmoved (world ids h).machine) refl refl refl (steady_same (world ids h).machine k.owed) k
known_more ids h (GiveUp place) legal allowed k = known_steady ids h (GiveUp place) (unmoved (world ids h).machine) refl refl refl (steady_same (world ids h).machine k.owed) k
known_more ids h (Publish track index place) legal allowed k = known_steady ids h (Publish track index place) (unmoved (world ids h).machine) refl refl refl (steady_same (world ids h).machine k.owed) k
known_more ids h (PassClear track index) legal allowed k = known_steady ids h (PassClear track index) (unmoved (world ids h).machine) refl refl refl (steady_same (world ids h).machine k.owed) k
known_more ids h (WaitForKey track) legal allowed k = known_steady ids h (WaitForKey track) (unmoved (wait_step (world ids h) track).machine) refl refl refl (waiting_steady (world ids h) track k.owed) k
known_more ids h (Settle line) legal allowed k = known_steady ids h (Settle line) (unmoved (world ids h).machine) refl refl refl (steady_same (world ids h).machine k.owed) k

none_pending : (p : ℕ) → 0 ≡ pending [] p
none_pending zero = refl
none_pending (suc i) = refl

known_start : (ids : List ℕ) → Known ids []
unfolding world settlements
known_start ids = record { promises = refl; owed = none_pending; settled = λ p. omega (arith, none_pending p) }

known : (ids : List ℕ) (h : List Entry) → IsLegal ids h → Known ids h
known ids h legal = legal_induction ids (Known ids) (known_start ids) (known_more ids) h legal

-- the promises of a legal history are those of its calls
pub promises_made : (ids : List ℕ) (h : List Entry) → IsLegal ids h → length (world ids h).machine.promises ≡ calls_in h
promises_made ids h legal = (let k = known ids h legal in k.promises)

made_above : (n p : ℕ) → n < p → made n p ≡ 0
made_above zero p lt = refl
made_above (suc n) p lt = omega (arith, made_above n p (omega arith), one_other (suc n) p (λ e. absurd (omega arith)))

made_within : (n p : ℕ) → made n p ≤ 1
made_within zero p = omega arith
made_within (suc n) p = elim (eqb_tells (suc n) p) [
  | inl e ↦ (let z : made n p ≡ 0 = made_above n p (omega (arith, e.1)) in omega (arith, z, one_within (suc n) p))
  | inr e ↦ omega (arith, one_other (suc n) p e.1, made_within n p)
]

made_one : (n p : ℕ) → 1 ≤ p → p ≤ n → made n p ≡ 1
made_one zero p one le = absurd (omega arith)
made_one (suc n) p one le = elim (eqb_tells (suc n) p) [
  | inl e ↦ (let z : made n p ≡ 0 = made_above n p (omega (arith, e.1)) in let o : one_if (suc n) p ≡ 1 = ap (λ q. one_if q p) e.1 ∙ one_same p in omega (arith, z, o))
  | inr e ↦ (let less : p ≤ n = below n p le e.1 in omega (arith, one_other (suc n) p e.1, made_one n p one less))
] where
  below : (n p : ℕ) → p ≤ suc n → (suc n ≡ p → ⊥) → p ≤ n
  below n p le ne = elim (eq-or-lt_of_le le) [ inl e ↦ absurd (ne (sym e)) | inr lt ↦ omega (arith, lt) ]

pub settles_at_most_once : SettlesAtMostOnce
settles_at_most_once ids h p legal = (let k = known ids h legal in omega (arith, k.settled p, made_within (calls_in h) p))

none_owed : (m : Machine) (p : ℕ) → IsOwed m → m.jobs ≡ [] → m.tasks ≡ [] → pending m.promises p ≡ 0
none_owed m p owed jobs tasks = (let o = owed p in let j : jobs_owe p m.jobs ≡ 0 = rw jobs refl in let t : tasks_owe p m.tasks ≡ 0 = rw tasks refl in omega (arith, o, j, t))

pub settles_each_once : SettlesEachOnce
settles_each_once ids h p legal rest one le =
    let k = known ids h legal in
    let z = none_owed (world ids h).machine p k.owed rest.jobs rest.tasks in
    omega (arith, k.settled p, z, made_one (calls_in h) p one le)

pub owes_each_once : OwesEachOnce
owes_each_once ids h legal = (let k = known ids h legal in k.owed)
