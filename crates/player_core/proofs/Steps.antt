-- Steps, one after the other.
use Rattle.std.proofs.Common.{zero, suc, ◌≡◌, ℕ, ◌+◌, ◌-◌, ◌<◌, List, [], ◌∷◌, ◌++◌, Some, length, slice_get, inl, inr, refl, ap, ◌∙◌, sym, subst, append_assoc, append-nil, length-append, arith}
use Rattle.std.specs.Prelude.{◌⊎◌}
use Rattle.eme_types.specs.declared.entry.Entry.{Entry}
use Rattle.eme_types.specs.declared.entry.Entry.TheVariants.{Claim, Deliver, Settle}
use Rattle.eme_types.specs.declared.entry.Verdict.{Verdict}
use Rattle.eme_types.specs.declared.entry.Verdict.TheVariants.{Taken as TakenVerdict, Stale as StaleVerdict}
use Rattle.key_claims.specs.declared.claim.Delivered.{Delivered}
use Rattle.key_claims.specs.declared.claim.Delivered.TheVariants.{Taken, Stale}
use Rattle.cdm_state.specs.Contract.{Delivers}
use Rattle.cdm_state.specs.History.{world, AtRest, Undelivered, MayClaim, MayPublish, MayPassClear, MayWait}
use Rattle.cdm_state.specs.Run.{Run, with_entry}
use Rattle.cdm_state.specs.Progress.{NoneWaits, NothingToDo}
use Rattle.cdm_state.proofs.Places.{waited_or_new}
use Rattle.team_play.proofs.Added.{world_settled}
use Rattle.player_core.specs.Alone.{LastAsked, InTurn, AreInTurn}
use Rattle.play_parts.specs.Asks.{IsStep}
use Rattle.play_parts.proofs.Reading.{all_append}
use Rattle.player_core.specs.Course.{more_history, Steps, Moves, Goes, Settles}
use Rattle.player_core.proofs.Turns.{turns_more}

more_twice : (r : Run) (xs ys : List Entry) → more_history (more_history r xs) ys ≡ more_history r (xs ++ ys)
more_twice r xs ys = ap (λ (h : List Entry). let s : Run = record r { history = h } in s) (append_assoc r.history xs ys)

-- an item of a list with one more at its end
pub push_cases : {A : Type 0} (xs : List A) (x : A) (k : ℕ) (y : A) → slice_get (xs ++ x ∷ []) k ≡ Some y → (slice_get xs k ≡ Some y) ⊎ ((k ≡ length xs) × (y ≡ x))
push_cases [] x zero y at = inr (refl, cc)
push_cases [] x (suc k) y at = absurd cc
push_cases (z ∷ xs) x zero y at = inl at
push_cases (z ∷ xs) x (suc k) y at =
    elim (push_cases xs x k y at) [ inl there ↦ inl there | inr end ↦ inr (ap suc end.0, end.1) ]

push_left : {A : Type 0} (xs : List A) (x : A) (k : ℕ) (y : A) → slice_get xs k ≡ Some y → slice_get (xs ++ x ∷ []) k ≡ Some y
push_left [] x k y at = absurd cc
push_left (z ∷ xs) x zero y at = at
push_left (z ∷ xs) x (suc k) y at = push_left xs x k y at

push_last : {A : Type 0} (xs : List A) (x : A) → slice_get (xs ++ x ∷ []) (length xs) ≡ Some x
push_last [] x = refl
push_last (z ∷ xs) x = push_last xs x

-- the entry is no claim
abbrev pub IsPlain : Entry → Type 0
IsPlain e = (worker track index session : ℕ) (kid : List ℕ) → Claim worker track index session kid ≡ e → ⊥

still_waits : (h : List Entry) (e : Entry) (c : ℕ) (u : Undelivered (h ++ e ∷ []) c) → slice_get h (c - 1) ≡ Some (Claim u.worker u.track u.index u.session u.kid) → Undelivered h c
still_waits h e c u at = record { worker = u.worker; track = u.track; index = u.index; session = u.session; kid = u.kid; at = (u.at.0, at); none = λ n x there. u.none n x (push_left h e n x there) }

-- an entry that is no claim leaves none to wait
pub none_waits : (h : List Entry) (e : Entry) → IsPlain e → NoneWaits h → NoneWaits (h ++ e ∷ [])
none_waits h e plain none c u =
    elim (push_cases h e (c - 1) (Claim u.worker u.track u.index u.session u.kid) u.at.1) [
      | inl there ↦ none c (still_waits h e c u there)
      | inr new ↦ plain u.worker u.track u.index u.session u.kid new.1
    ]

-- nor do a claim and its delivery
both_wait : (h : List Entry) (e : Entry) (place : ℕ) (verdict : Verdict) → place ≡ length h + 1 → NoneWaits h → NoneWaits ((h ++ e ∷ []) ++ Deliver place verdict ∷ [])
both_wait h e place verdict here none c u =
    elim (waited_or_new (h ++ e ∷ []) (Deliver place verdict) c u) [
      | inl before ↦ elim (waited_or_new h e c before) [
        | inl old ↦ none c old
        | inr new ↦ u.none (length (h ++ e ∷ [])) (Deliver place verdict) (push_last (h ++ e ∷ []) (Deliver place verdict)) (here ∙ sym new)
      ]
      | inr late ↦ elim (push_cases (h ++ e ∷ []) (Deliver place verdict) (c - 1) (Claim u.worker u.track u.index u.session u.kid) u.at.1) [
        | inl there ↦ absurd (let le : length (h ++ e ∷ []) ≡ length (h ++ e ∷ []) = refl in past (h ++ e ∷ []) (c - 1) (Claim u.worker u.track u.index u.session u.kid) (omega (arith, late)) there)
        | inr new ↦ (let clash = new.1 in absurd cc)
      ]
    ]
  where
    past : (xs : List Entry) (k : ℕ) (x : Entry) → k ≡ length xs → slice_get xs k ≡ Some x → ⊥
    past [] k x end at = absurd cc
    past (y ∷ xs) zero x end at = absurd (omega (arith, end))
    past (y ∷ xs) (suc k) x end at = past xs k x (omega (arith, end)) at

delivered_in : (old mid new : Run) (e : Entry) → mid ≡ old → new ≡ with_entry mid e → IsPlain e → NoneWaits old.history → NoneWaits new.history
delivered_in old mid new e same is plain none =
    subst (λ (r : Run). NoneWaits r.history) (sym (is ∙ ap (λ (r : Run). with_entry r e) same)) (none_waits old.history e plain none)

turns_in : (old mid new : Run) (e : Entry) → mid ≡ old → new ≡ with_entry mid e → InTurn old.tracks old.history e → AreInTurn old.tracks old.history → AreInTurn new.tracks new.history
turns_in old mid new e same is turn all =
    subst (λ (r : Run). AreInTurn r.tracks r.history) (sym (is ∙ ap (λ (r : Run). with_entry r e) same)) (turns_more old.tracks old.history e all turn)

longer : (h es g : List Entry) → g ≡ h ++ es → 0 < length es → length h < length g
longer h es g is some = let many = ap length is ∙ length-append h es in omega (arith, many, some)

pub step_one : (old mid new : Run) (e : Entry) → mid ≡ old → new ≡ with_entry mid e → IsStep e → IsPlain e → InTurn old.tracks old.history e → Moves old new
step_one old mid new e same is one plain turn =
    let here : new ≡ with_entry old e = is ∙ ap (λ (r : Run). with_entry r e) same in
    let steps : Steps old new = record {
      taken = e ∷ [];
      is = here;
      steps = (one, tt);
      delivered = delivered_in old mid new e same is plain;
      turns = λ all. turns_in old mid new e same is turn all;
    } in
    (steps, longer old.history (e ∷ []) new.history (ap (λ (r : Run). r.history) here) (omega arith))

pub steps_none : (r : Run) → Steps r r
steps_none r = record {
  taken = [];
  is = ap (λ (h : List Entry). let s : Run = record r { history = h } in s) (sym (append-nil r.history));
  steps = tt;
  delivered = λ none. none;
  turns = λ all. all;
}

pub steps_more : (old mid new : Run) → Steps old mid → Steps mid new → Steps old new
steps_more old mid new a b = record {
  taken = a.taken ++ b.taken;
  is = b.is ∙ (ap (λ (r : Run). more_history r b.taken) a.is ∙ more_twice old a.taken b.taken);
  steps = all_append IsStep a.taken b.taken a.steps b.steps;
  delivered = λ none. b.delivered (a.delivered none);
  turns = λ all. b.turns (a.turns all);
}

-- a claim and its delivery
two_steps : (old mid claimed new : Run) (e : Entry) (place : ℕ) (verdict : Verdict) → mid ≡ old → claimed ≡ with_entry mid e → new ≡ with_entry claimed (Deliver place verdict) → place ≡ length mid.history + 1 → IsStep e → InTurn old.tracks old.history e → Moves old new
two_steps old mid claimed new e place verdict same is then here one turn =
    let all : new ≡ with_entry (with_entry old e) (Deliver place verdict) = then ∙ ap (λ (r : Run). with_entry r (Deliver place verdict)) (is ∙ ap (λ (r : Run). with_entry r e) same) in
    let at : place ≡ length old.history + 1 = here ∙ ap (λ (r : Run). length r.history + 1) same in
    let steps : Steps old new = record {
      taken = e ∷ (Deliver place verdict ∷ []);
      is = all ∙ more_twice old (e ∷ []) (Deliver place verdict ∷ []);
      steps = (one, (tt, tt));
      delivered = λ none. subst (λ (r : Run). NoneWaits r.history) (sym all) (both_wait old.history e place verdict at none);
      turns = λ before. subst (λ (r : Run). AreInTurn r.tracks r.history) (sym all) (turns_more old.tracks (old.history ++ e ∷ []) (Deliver place verdict) (turns_more old.tracks old.history e before turn) (at ∙ sym (length-append old.history (e ∷ []))));
    } in
    (steps, longer old.history (e ∷ (Deliver place verdict ∷ [])) new.history (ap (λ (r : Run). r.history) steps.is) (omega arith))

pub claim_steps : (old mid claimed new : Run) (e : Entry) (place : ℕ) (clear : List ℕ) (how : Delivered) → mid ≡ old → claimed ≡ with_entry mid e → place ≡ length mid.history + 1 → IsStep e → InTurn old.tracks old.history e → Delivers claimed place clear how new → Moves old new
claim_steps old mid claimed new e place clear Taken same is here one turn did = two_steps old mid claimed new e place TakenVerdict same is did.1 here one turn
claim_steps old mid claimed new e place clear (Stale back) same is here one turn did = two_steps old mid claimed new e place StaleVerdict same is did.1 here one turn

pub goes_now : (old mid new : Run) (e : Entry) → mid ≡ old → new ≡ with_entry mid e → IsPlain e → (LastAsked old.history → InTurn old.tracks old.history e) → Goes old new e
goes_now old mid new e same is plain turn = record {
  taken = [];
  is = is ∙ ap (λ (r : Run). with_entry r e) same;
  steps = tt;
  delivered = delivered_in old mid new e same is plain;
  turns = λ last all. turns_in old mid new e same is (turn last) all;
}

goes_after : (old mid new : Run) (e : Entry) → Steps old mid → Goes mid new e → (AreInTurn mid.tracks mid.history → AreInTurn new.tracks new.history) → Goes old new e
goes_after old mid new e a b turns = record {
  taken = a.taken ++ b.taken;
  is = b.is ∙ (ap (λ (r : Run). more_history r (b.taken ++ e ∷ [])) a.is ∙ (more_twice old a.taken (b.taken ++ e ∷ []) ∙ ap (λ es. more_history old es) (sym (append_assoc a.taken b.taken (e ∷ [])))));
  steps = all_append IsStep a.taken b.taken a.steps b.steps;
  delivered = λ none. b.delivered (a.delivered none);
  turns = λ last all. turns (a.turns all);
}

pub settles_now : (old new : Run) (line : ℕ) → new ≡ with_entry old (Settle line) → AtRest (world old.tracks old.history) → NoneWaits old.history → NothingToDo old.tracks old.history → Settles old new line
settles_now old new line is rest none idle = record {
  goes = goes_now old old new (Settle line) refl is (λ w t i n k x. cc) (λ last. (none, idle));
  turns = λ all. turns_in old old new (Settle line) refl is (none, idle) all;
  rest = subst (λ (r : Run). AtRest (world r.tracks r.history)) (sym is) (subst AtRest (sym (world_settled old.tracks old.history line)) rest);
}

pub settles_after : (old mid new : Run) (line : ℕ) → Steps old mid → Settles mid new line → Settles old new line
settles_after old mid new line a b = record { goes = goes_after old mid new (Settle line) a b.goes b.turns; turns = λ all. b.turns (a.turns all); rest = b.rest }

pub settles_same : (old mid new : Run) (line : ℕ) → mid ≡ old → Settles mid new line → Settles old new line
settles_same old mid new line same s = subst (λ (r : Run). Settles r new line) same s

-- the refusals of all steps, each of which left the core as it was
pub nothing_to_do : (now job task publish pass claim wait : Run) → job ≡ now → task ≡ job → publish ≡ task → pass ≡ publish → claim ≡ pass → wait ≡ claim → (world now.tracks now.history).machine.jobs ≡ [] → (world job.tracks job.history).machine.tasks ≡ [] → ((track index place : ℕ) → MayPublish task.tracks task.history track index place → ⊥) → ((track index : ℕ) → MayPassClear publish.tracks publish.history track index → ⊥) → ((track index session : ℕ) (kid : List ℕ) → MayClaim pass.tracks pass.history track index session kid → ⊥) → ((track : ℕ) → MayWait claim.tracks claim.history track → ⊥) → NothingToDo wait.tracks wait.history
nothing_to_do now job task publish pass claim wait a b c d e f jobs tasks published passed claimed waited = record {
  jobs = subst (λ (r : Run). (world r.tracks r.history).machine.jobs ≡ []) (sym (f ∙ (e ∙ (d ∙ (c ∙ (b ∙ a)))))) jobs;
  tasks = subst (λ (r : Run). (world r.tracks r.history).machine.tasks ≡ []) (sym (f ∙ (e ∙ (d ∙ (c ∙ b))))) tasks;
  publish = subst (λ (r : Run). (track index place : ℕ) → MayPublish r.tracks r.history track index place → ⊥) (sym (f ∙ (e ∙ (d ∙ c)))) published;
  pass = subst (λ (r : Run). (track index : ℕ) → MayPassClear r.tracks r.history track index → ⊥) (sym (f ∙ (e ∙ d))) passed;
  claim = subst (λ (r : Run). (track index session : ℕ) (kid : List ℕ) → MayClaim r.tracks r.history track index session kid → ⊥) (sym (f ∙ e)) claimed;
  wait = subst (λ (r : Run). (track : ℕ) → MayWait r.tracks r.history track → ⊥) (sym f) waited;
}
