-- What steps and an entry add to what is read off a history.
use Rattle.std.proofs.Common.{◌≡◌, ℕ, ◌+◌, Bool, false, List, [], ◌∷◌, ◌++◌, count_by, refl, ap, ◌∙◌, sym, subst, append_assoc, append-nil, zero-add, if◌then◌else◌, arith}
use Rattle.std.specs.List.{fold, sum_by, flat_map, AllByRecursion}
use Rattle.std.proofs.lemmas.List.Concat.{flat_map-append}
use Rattle.std.proofs.lemmas.List.Sums.{sum_by-append, sum_by-cons, fold-append}
use Rattle.eme_types.specs.declared.entry.Entry.{Entry}
use Rattle.eme_types.specs.declared.entry.Entry.TheVariants.{Call, Job, Task, Tick, Feed, Evict, Claim, Deliver, GiveUp, Publish, PassClear, WaitForKey, Settle}
use Rattle.cdm_state.specs.Run.{Run}
use Rattle.cdm_state.specs.History.{fed_samples_of, fed_bytes_of}
use Rattle.cdm_state.specs.Moment.{tick_to}
use Rattle.output_order.specs.Lane.{line_of, asked, fed_by}
use Rattle.output_order.specs.Staffed.{gives_up}
use Rattle.player_core.specs.Alone.{LastAsked}
use Rattle.play_parts.specs.Asks.{IsStep, IsOfLanes}
use Rattle.play_parts.proofs.Reading.{all_append}
use Rattle.play_parts.proofs.Steps.{step_line, step_asked, step_feeds}
use Rattle.player_core.specs.Course.{Goes}
use Rattle.player_core.proofs.Turns.{last_asked}

step_samples : (e : Entry) → IsStep e → fed_samples_of e ≡ 0
step_samples (Call lane line call) s = absurd s
step_samples Job s = refl
step_samples Task s = refl
step_samples (Tick line moment) s = absurd s
step_samples (Feed line fragment) s = absurd s
step_samples (Evict line label) s = absurd s
step_samples (Claim worker track index session kid) s = refl
step_samples (Deliver place verdict) s = refl
step_samples (GiveUp place) s = absurd s
step_samples (Publish track index place) s = refl
step_samples (PassClear track index) s = refl
step_samples (WaitForKey track) s = refl
step_samples (Settle line) s = absurd s

step_bytes : (e : Entry) → IsStep e → fed_bytes_of e ≡ 0
step_bytes (Call lane line call) s = absurd s
step_bytes Job s = refl
step_bytes Task s = refl
step_bytes (Tick line moment) s = absurd s
step_bytes (Feed line fragment) s = absurd s
step_bytes (Evict line label) s = absurd s
step_bytes (Claim worker track index session kid) s = refl
step_bytes (Deliver place verdict) s = refl
step_bytes (GiveUp place) s = absurd s
step_bytes (Publish track index place) s = refl
step_bytes (PassClear track index) s = refl
step_bytes (WaitForKey track) s = refl
step_bytes (Settle line) s = absurd s

step_ticks : (n : ℕ) (e : Entry) → IsStep e → tick_to n e ≡ n
step_ticks n (Call lane line call) s = absurd s
step_ticks n Job s = refl
step_ticks n Task s = refl
step_ticks n (Tick line moment) s = absurd s
step_ticks n (Feed line fragment) s = absurd s
step_ticks n (Evict line label) s = absurd s
step_ticks n (Claim worker track index session kid) s = refl
step_ticks n (Deliver place verdict) s = refl
step_ticks n (GiveUp place) s = absurd s
step_ticks n (Publish track index place) s = refl
step_ticks n (PassClear track index) s = refl
step_ticks n (WaitForKey track) s = refl
step_ticks n (Settle line) s = absurd s

step_alone : (e : Entry) → IsStep e → IsOfLanes e
step_alone (Call lane line call) s = absurd s
step_alone Job s = tt
step_alone Task s = tt
step_alone (Tick line moment) s = absurd s
step_alone (Feed line fragment) s = absurd s
step_alone (Evict line label) s = absurd s
step_alone (Claim worker track index session kid) s = s
step_alone (Deliver place verdict) s = tt
step_alone (GiveUp place) s = absurd s
step_alone (Publish track index place) s = tt
step_alone (PassClear track index) s = tt
step_alone (WaitForKey track) s = tt
step_alone (Settle line) s = absurd s

flat_none : {A : Type 0} (f : Entry → List A) → ((e : Entry) → IsStep e → f e ≡ []) → (es : List Entry) → AllByRecursion IsStep es → flat_map f es ≡ []
flat_none f none [] s = refl
flat_none f none (e ∷ es) s = ap (λ xs. xs ++ flat_map f es) (none e s.0) ∙ flat_none f none es s.1

sum_none : (f : Entry → ℕ) → ((e : Entry) → IsStep e → f e ≡ 0) → (es : List Entry) → AllByRecursion IsStep es → sum_by f es ≡ 0
sum_none f none [] s = refl
sum_none f none (e ∷ es) s = sum_by-cons f e es ∙ (ap (λ n. n + sum_by f es) (none e s.0) ∙ (zero-add (sum_by f es) ∙ sum_none f none es s.1))

ticks_none : (n : ℕ) (es : List Entry) → AllByRecursion IsStep es → fold tick_to n es ≡ n
ticks_none n [] s = refl
ticks_none n (e ∷ es) s = ap (λ m. fold tick_to m es) (step_ticks n e s.0) ∙ ticks_none n es s.1

alone_steps : (es : List Entry) → AllByRecursion IsStep es → AllByRecursion IsOfLanes es
alone_steps [] s = tt
alone_steps (e ∷ es) s = (step_alone e s.0, alone_steps es s.1)

flat_added : {A : Type 0} (f : Entry → List A) → ((e : Entry) → IsStep e → f e ≡ []) → (h taken : List Entry) (e : Entry) → AllByRecursion IsStep taken → flat_map f (h ++ (taken ++ e ∷ [])) ≡ flat_map f h ++ f e
flat_added f none h taken e s =
    flat_map-append f h (taken ++ e ∷ []) ∙ ap (λ xs. flat_map f h ++ xs) (flat_map-append f taken (e ∷ []) ∙ (ap (λ xs. xs ++ (f e ++ [])) (flat_none f none taken s) ∙ append-nil (f e)))

sum_added : (f : Entry → ℕ) → ((e : Entry) → IsStep e → f e ≡ 0) → (h taken : List Entry) (e : Entry) → AllByRecursion IsStep taken → sum_by f (h ++ (taken ++ e ∷ [])) ≡ sum_by f h + f e
sum_added f none h taken e s =
    let whole : sum_by f (h ++ (taken ++ e ∷ [])) ≡ sum_by f h + sum_by f (taken ++ e ∷ []) = sum_by-append f h (taken ++ e ∷ []) in
    let part : sum_by f (taken ++ e ∷ []) ≡ sum_by f taken + sum_by f (e ∷ []) = sum_by-append f taken (e ∷ []) in
    let nothing : sum_by f taken ≡ 0 = sum_none f none taken s in
    let one : sum_by f (e ∷ []) ≡ f e + sum_by f [] = sum_by-cons f e [] in
    let empty : sum_by f [] ≡ 0 = refl in
    omega (arith, whole, part, nothing, one, empty)

history_of : (old new : Run) (e : Entry) (g : Goes old new e) → new.history ≡ old.history ++ (g.taken ++ e ∷ [])
history_of old new e g = ap (λ (r : Run). r.history) g.is

pub tracks_kept : (old new : Run) (e : Entry) → Goes old new e → new.tracks ≡ old.tracks
tracks_kept old new e g = ap (λ (r : Run). r.tracks) g.is

pub lines_added : (old new : Run) (e : Entry) → Goes old new e → flat_map line_of new.history ≡ flat_map line_of old.history ++ line_of e
lines_added old new e g = ap (λ h. flat_map line_of h) (history_of old new e g) ∙ flat_added line_of step_line old.history g.taken e g.steps

pub asked_added : (old new : Run) (e : Entry) → Goes old new e → flat_map asked new.history ≡ flat_map asked old.history ++ asked e
asked_added old new e g = ap (λ h. flat_map asked h) (history_of old new e g) ∙ flat_added asked step_asked old.history g.taken e g.steps

pub feeds_added : (old new : Run) (e : Entry) → Goes old new e → flat_map fed_by new.history ≡ flat_map fed_by old.history ++ fed_by e
feeds_added old new e g = ap (λ h. flat_map fed_by h) (history_of old new e g) ∙ flat_added fed_by step_feeds old.history g.taken e g.steps

pub samples_added : (old new : Run) (e : Entry) → Goes old new e → sum_by fed_samples_of new.history ≡ sum_by fed_samples_of old.history + fed_samples_of e
samples_added old new e g = ap (λ h. sum_by fed_samples_of h) (history_of old new e g) ∙ sum_added fed_samples_of step_samples old.history g.taken e g.steps

pub bytes_added : (old new : Run) (e : Entry) → Goes old new e → sum_by fed_bytes_of new.history ≡ sum_by fed_bytes_of old.history + fed_bytes_of e
bytes_added old new e g = ap (λ h. sum_by fed_bytes_of h) (history_of old new e g) ∙ sum_added fed_bytes_of step_bytes old.history g.taken e g.steps

pub ticks_added : (old new : Run) (e : Entry) → Goes old new e → fold tick_to 0 new.history ≡ tick_to (fold tick_to 0 old.history) e
ticks_added old new e g =
    ap (λ h. fold tick_to 0 h) (history_of old new e g) ∙ (fold-append tick_to 0 old.history (g.taken ++ e ∷ []) ∙ (fold-append tick_to (fold tick_to 0 old.history) g.taken (e ∷ []) ∙ ap (λ n. tick_to n e) (ticks_none (fold tick_to 0 old.history) g.taken g.steps)))

pub alone_added : (old new : Run) (e : Entry) → Goes old new e → AllByRecursion IsOfLanes old.history → IsOfLanes e → AllByRecursion IsOfLanes new.history
alone_added old new e g all one =
    subst (λ h. AllByRecursion IsOfLanes h) (sym (history_of old new e g)) (all_append IsOfLanes old.history (g.taken ++ e ∷ []) all (all_append IsOfLanes g.taken (e ∷ []) (alone_steps g.taken g.steps) (one, tt)))

-- the entry of a line is the last
pub last_added : (old new : Run) (e : Entry) → Goes old new e → asked e ≡ e ∷ [] → LastAsked new.history
last_added old new e g is =
    subst LastAsked (sym (history_of old new e g ∙ sym (append_assoc old.history g.taken (e ∷ [])))) (last_asked (old.history ++ g.taken) e is)

none_given_up : (h : List Entry) (worker : ℕ) (e : Entry) → IsOfLanes e → gives_up h worker e ≡ false
none_given_up h worker (Call lane line call) a = refl
none_given_up h worker Job a = refl
none_given_up h worker Task a = refl
none_given_up h worker (Tick line moment) a = refl
none_given_up h worker (Feed line fragment) a = refl
none_given_up h worker (Evict line label) a = refl
none_given_up h worker (Claim claimant track index session kid) a = refl
none_given_up h worker (Deliver place verdict) a = refl
none_given_up h worker (GiveUp place) a = absurd a
none_given_up h worker (Publish track index place) a = refl
none_given_up h worker (PassClear track index) a = refl
none_given_up h worker (WaitForKey track) a = refl
none_given_up h worker (Settle line) a = refl

pub no_times_given_up : (h : List Entry) (worker : ℕ) (es : List Entry) → AllByRecursion IsOfLanes es → count_by (gives_up h worker) es ≡ 0
no_times_given_up h worker [] all = refl
no_times_given_up h worker (e ∷ es) all =
    let tally : Bool → ℕ = λ b. if b then 1 else 0 in
    let one : tally (gives_up h worker e) ≡ 0 = ap tally (none_given_up h worker e all.0) in
    let rest : count_by (gives_up h worker) es ≡ 0 = no_times_given_up h worker es all.1 in
    sum_by-cons (λ x. if gives_up h worker x then 1 else 0) e es ∙ omega (arith, one, rest)
