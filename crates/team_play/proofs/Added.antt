-- What calls with a pass add, put together.
use Rattle.std.proofs.Common.{◌≡◌, ℕ, ◌+◌, List, [], ◌∷◌, ◌++◌, length, length-append, Result, Ok, Err, refl, ap, sym, subst, ◌∙◌, append_assoc, append-nil, arith, ⊎_elim}
use Rattle.std.proofs.lemmas.List.Sums.{fold-append}
use Rattle.std.specs.Prelude.{OnOk}
use Rattle.std.specs.declared.alloc.AllocError.{AllocError}
use mathlib.Core.List.{IsPrefix}
use Rattle.eme_types.specs.declared.entry.Entry.{Entry}
use Rattle.eme_types.specs.declared.entry.Entry.TheVariants.{Job, Task, Tick, Claim, Deliver, Publish, PassClear, WaitForKey, Settle}
use Rattle.key_sessions.specs.declared.fault.StepFault.{StepFault}
use Rattle.key_claims.specs.declared.claim.Claim.{Claim as Held}
use Rattle.key_claims.specs.declared.claim.Delivered.{Delivered}
use Rattle.key_claims.specs.declared.claim.NotReady.{NotReady}
use Rattle.key_claims.specs.declared.claim.NotWaiting.{NotWaiting}
use Rattle.key_claims.specs.declared.claim.Published.{Published}
use Rattle.cdm_state.specs.declared.cdm.SettleFault.{SettleFault}
use Rattle.key_sessions.specs.World.{empty_world}
use Rattle.cdm_state.specs.After.{after_entry}
use Rattle.cdm_state.specs.Run.{Run, with_entry}
use Rattle.cdm_state.specs.History.{world, AtRest}
use Rattle.cdm_state.specs.Does.{JobDoes, TaskDoes, TickDoes, WaitDoes, PublishDoes, PassClearDoes, DeliverDoes, SettleDoes}
use Rattle.book_lock.proofs.Fronts.{prefix_self}
use Rattle.decrypt_workers.specs.Desks.{Placed, Adds as DeskAdds, IsClaim}
use Rattle.decrypt_workers.specs.Workers.{IsAnyClaim}
use Rattle.decrypt_workers.proofs.Works.{prefix_trans}
use Rattle.shared_cdm.specs.Shared.{run, Shared}
use Rattle.shared_cdm.proofs.Held.{later_of, delivered_as, last_of}
use Rattle.play_parts.specs.Asks.{IsStep}
use Rattle.play_parts.proofs.Steps.{steps_none, steps_both, steps_one, steps_claim}
use Rattle.team_play.specs.Adds.{Steps, AddsOne, StepsAnd, Settles}

one_longer : (s h : List Entry) (e : Entry) → s ≡ h → s ≡ h ++ e ∷ [] → ⊥
one_longer s h e same more =
    let a : length s ≡ length h = ap length same in
    let b : length s ≡ length h + 1 = ap length more ∙ length-append h (e ∷ []) in
    omega (arith, a, b)

-- ---- one call

-- the call added this entry
one_added : {A : Type 0} (Does : Run → A → Run → Type 0) (answer : A) (ids : List ℕ) (s s' : List Entry) (o o' : Placed) (e : Entry) (x : Shared Does ids s o answer s' o') → run ids s' ≡ with_entry (run ids x.before) e → o' ≡ o ++ (length s', e) ∷ []
one_added Does answer ids s s' o o' e x is =
    let last : s' ≡ x.before ++ e ∷ [] = ap (λ (r : Run). r.history) is in ⊎_elim
    (λ (r : (s' ≡ x.before) × (o' ≡ o)). absurd (one_longer s' x.before e r.0 last))
    (λ (r : (y : Entry) × (s' ≡ x.before ++ y ∷ []) × (o' ≡ o ++ (length s', y) ∷ [])). r.2 ∙ ap (λ (z : Entry). o ++ (length s', z) ∷ []) (last_of x.before r.0 e (sym r.1 ∙ last)))
    x.grows

-- the call added nothing
none_added : {A : Type 0} (Does : Run → A → Run → Type 0) (answer : A) (ids : List ℕ) (s s' : List Entry) (o o' : Placed) (x : Shared Does ids s o answer s' o') → run ids s' ≡ run ids x.before → o' ≡ o
none_added Does answer ids s s' o o' x is =
    let same : s' ≡ x.before = ap (λ (r : Run). r.history) is in ⊎_elim
    (λ (r : (s' ≡ x.before) × (o' ≡ o)). r.1)
    (λ (r : (y : Entry) × (s' ≡ x.before ++ y ∷ []) × (o' ≡ o ++ (length s', y) ∷ [])). absurd (one_longer s' x.before r.0 same r.1))
    x.grows

adds_one : {A : Type 0} (Does : Run → A → Run → Type 0) (answer : A) (ids : List ℕ) (s s' : List Entry) (o o' : Placed) (e : Entry) (x : Shared Does ids s o answer s' o') → run ids s' ≡ with_entry (run ids x.before) e → AddsOne e s o s' o'
adds_one Does answer ids s s' o o' e x is = record { later = later_of Does ids s o answer s' o' x; news = (length s', e) ∷ []; own = one_added Does answer ids s s' o o' e x is; is = (length s', refl) }

takes_one : {A : Type 0} (Does : Run → A → Run → Type 0) (answer : A) (ids : List ℕ) (s s' : List Entry) (o o' : Placed) (e : Entry) (x : Shared Does ids s o answer s' o') → run ids s' ≡ with_entry (run ids x.before) e → IsStep e → (IsAnyClaim e → ⊥) → Steps s o s' o'
takes_one Does answer ids s s' o o' e x is step plain = record { later = later_of Does ids s o answer s' o' x; news = (length s', e) ∷ []; own = one_added Does answer ids s s' o o' e x is; is = steps_one (length s') e step plain }

takes_none : {A : Type 0} (Does : Run → A → Run → Type 0) (answer : A) (ids : List ℕ) (s s' : List Entry) (o o' : Placed) (x : Shared Does ids s o answer s' o') → run ids s' ≡ run ids x.before → Steps s o s' o'
takes_none Does answer ids s s' o o' x is = record { later = later_of Does ids s o answer s' o' x; news = []; own = none_added Does answer ids s s' o o' x is ∙ sym (append-nil o); is = steps_none }

-- ---- the calls of the core

pub by_tick : (r : Result (Unit {0}) AllocError) (line moment : ℕ) (ids : List ℕ) (s s' : List Entry) (o o' : Placed) → Shared (TickDoes line moment) ids s o r s' o' → OnOk r (AddsOne (Tick line moment) s o s' o')
by_tick (Ok u) line moment ids s s' o o' x = adds_one (TickDoes line moment) (Ok u) ids s s' o o' (Tick line moment) x x.does.ok
by_tick (Err e) line moment ids s s' o o' x = tt

pub by_job : (r : Result (Unit {0}) StepFault) (ids : List ℕ) (s s' : List Entry) (o o' : Placed) → Shared JobDoes ids s o r s' o' → Steps s o s' o'
by_job (Ok u) ids s s' o o' x = takes_one JobDoes (Ok u) ids s s' o o' Job x x.does.ok tt (λ h. h)
by_job (Err f) ids s s' o o' x = takes_none JobDoes (Err f) ids s s' o o' x x.does.err

pub by_task : (r : Result (Unit {0}) StepFault) (ids : List ℕ) (s s' : List Entry) (o o' : Placed) → Shared TaskDoes ids s o r s' o' → Steps s o s' o'
by_task (Ok u) ids s s' o o' x = takes_one TaskDoes (Ok u) ids s s' o o' Task x x.does.ok tt (λ h. h)
by_task (Err f) ids s s' o o' x = takes_none TaskDoes (Err f) ids s s' o o' x x.does.err

pub by_publish : (r : Result Published NotReady) (ids : List ℕ) (s s' : List Entry) (o o' : Placed) → Shared PublishDoes ids s o r s' o' → Steps s o s' o'
by_publish (Ok p) ids s s' o o' x = takes_one PublishDoes (Ok p) ids s s' o o' (Publish p.track p.index x.does.ok.0) x x.does.ok.1 tt (λ h. h)
by_publish (Err f) ids s s' o o' x = takes_none PublishDoes (Err f) ids s s' o o' x x.does.err

pub by_pass_clear : (r : Result Published NotReady) (ids : List ℕ) (s s' : List Entry) (o o' : Placed) → Shared PassClearDoes ids s o r s' o' → Steps s o s' o'
by_pass_clear (Ok p) ids s s' o o' x = takes_one PassClearDoes (Ok p) ids s s' o o' (PassClear p.track p.index) x x.does.ok tt (λ h. h)
by_pass_clear (Err f) ids s s' o o' x = takes_none PassClearDoes (Err f) ids s s' o o' x x.does.err

pub by_wait : (r : Result ℕ NotWaiting) (ids : List ℕ) (s s' : List Entry) (o o' : Placed) → Shared WaitDoes ids s o r s' o' → Steps s o s' o'
by_wait (Ok t) ids s s' o o' x = takes_one WaitDoes (Ok t) ids s s' o o' (WaitForKey t) x x.does.ok tt (λ h. h)
by_wait (Err f) ids s s' o o' x = takes_none WaitDoes (Err f) ids s s' o o' x x.does.err

-- a settle that was refused
pub by_refusal : (line : ℕ) (f : SettleFault) (ids : List ℕ) (s s' : List Entry) (o o' : Placed) → Shared (SettleDoes line) ids s o (Err f) s' o' → Steps s o s' o'
by_refusal line f ids s s' o o' x = takes_none (SettleDoes line) (Err f) ids s s' o o' x x.does.err

-- a claim of worker 0, and its delivery
pub by_claim : (c : Held) (clear : List ℕ) (d : Delivered) (ids : List ℕ) (s s1 s2 : List Entry) (o o1 o2 : Placed) → DeskAdds (IsClaim c) s o s1 o1 → c.worker ≡ 0 → c.place ≡ length s1 → Shared (DeliverDoes c.place clear) ids s1 o1 d s2 o2 → Steps s o s2 o2
by_claim c clear d ids s s1 s2 o o1 o2 a who place x =
    let done = delivered_as (run ids x.before) (run ids s2) c.place clear d x.does in
    let kid : List ℕ = a.is.0 in
    let claim : ℕ × Entry = (c.place, Claim 0 c.track c.index c.session kid) in
    let end : ℕ × Entry = (length s2, Deliver c.place done.0) in
    let is : (length s1, a.entry) ≡ claim =
    ap (λ (e : Entry). (length s1, e)) (a.is.1 ∙ ap (λ (n : ℕ). Claim n c.track c.index c.session kid) who) ∙ ap (λ (n : ℕ). (n, Claim 0 c.track c.index c.session kid)) (sym place) in
    let own1 : o1 ≡ o ++ claim ∷ [] = a.own ∙ ap (λ (z : ℕ × Entry). o ++ z ∷ []) is in
    let own2 : o2 ≡ o1 ++ end ∷ [] = one_added (DeliverDoes c.place clear) d ids s1 s2 o1 o2 (Deliver c.place done.0) x done.1 in record {
      later = prefix_trans s s1 s2 (subst (λ (z : List Entry). IsPrefix s z) (sym a.last) (prefix_trans s a.before (a.before ++ a.entry ∷ []) a.later (a.entry ∷ [], refl))) (later_of (DeliverDoes c.place clear) ids s1 o1 d s2 o2 x);
      news = claim ∷ (end ∷ []);
      own = own2 ∙ (ap (λ (z : Placed). z ++ end ∷ []) own1 ∙ append_assoc o (claim ∷ []) (end ∷ []));
      is = steps_claim c.place (length s2) c.track c.index c.session kid done.0;
    }

-- ---- runs of calls

pub took_none : (s : List Entry) (o : Placed) → Steps s o s o
took_none s o = record { later = prefix_self s; news = []; own = sym (append-nil o); is = steps_none }

pub took_both : (s s1 s2 : List Entry) (o o1 o2 : Placed) → Steps s o s1 o1 → Steps s1 o1 s2 o2 → Steps s o s2 o2
took_both s s1 s2 o o1 o2 a b = record {
  later = prefix_trans s s1 s2 a.later b.later;
  news = a.news ++ b.news;
  own = b.own ∙ (ap (λ (z : Placed). z ++ b.news) a.own ∙ append_assoc o a.news b.news);
  is = steps_both a.news b.news a.is b.is;
}

-- no step, and then the entry
pub just_one : (e : Entry) (s s' : List Entry) (o o' : Placed) → AddsOne e s o s' o' → StepsAnd e s o s' o'
just_one e s s' o o' a = record { later = a.later; steps = []; place = a.is.0; own = a.own ∙ ap (λ (z : Placed). o ++ z) a.is.1; are = steps_none }

pub world_settled : (ids : List ℕ) (h : List Entry) (line : ℕ) → world ids (h ++ Settle line ∷ []) ≡ world ids h
unfolding world
world_settled ids h line = fold-append after_entry (empty_world ids) h (Settle line ∷ [])

-- steps, and then a settle
pub settled_after : (line : ℕ) (u : Unit {0}) (ids : List ℕ) (s s1 s2 : List Entry) (o o1 o2 : Placed) → Steps s o s1 o1 → Shared (SettleDoes line) ids s1 o1 (Ok u) s2 o2 → Settles line ids s o s2 o2
settled_after line u ids s s1 s2 o o1 o2 a x =
    let e : ℕ × Entry = (length s2, Settle line) in
    let own2 : o2 ≡ o1 ++ e ∷ [] = one_added (SettleDoes line) (Ok u) ids s1 s2 o1 o2 (Settle line) x x.does.ok in
    let last : s2 ≡ x.before ++ Settle line ∷ [] = ap (λ (r : Run). r.history) x.does.ok in record {
      goes = record {
        later = prefix_trans s s1 s2 a.later (later_of (SettleDoes line) ids s1 o1 (Ok u) s2 o2 x);
        steps = a.news;
        place = length s2;
        own = own2 ∙ (ap (λ (z : Placed). z ++ e ∷ []) a.own ∙ append_assoc o a.news (e ∷ []));
        are = a.is;
      };
      rest = subst (λ (h : List Entry). AtRest (world ids h)) (sym last) (subst AtRest (sym (world_settled ids x.before line)) x.does.rest);
    }

-- ---- on an answer that may lack memory

pub on_ok : {A E X : Type 0} (r : Result A E) → X → OnOk r X
on_ok (Ok a) x = x
on_ok (Err e) x = tt

pub took_both_if : {A E : Type 0} (r : Result A E) (s s1 s2 : List Entry) (o o1 o2 : Placed) → Steps s o s1 o1 → OnOk r (Steps s1 o1 s2 o2) → OnOk r (Steps s o s2 o2)
took_both_if (Ok x) s s1 s2 o o1 o2 a b = took_both s s1 s2 o o1 o2 a b
took_both_if (Err e) s s1 s2 o o1 o2 a b = tt

pub just_one_if : {A E : Type 0} (r : Result A E) (e e' : Entry) (s s' : List Entry) (o o' : Placed) → e ≡ e' → OnOk r (AddsOne e s o s' o') → OnOk r (StepsAnd e' s o s' o')
just_one_if (Ok x) e e' s s' o o' is a = subst (λ (z : Entry). StepsAnd z s o s' o') is (just_one e s s' o o' a)
just_one_if (Err f) e e' s s' o o' is a = tt
