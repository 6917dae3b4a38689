-- What may come after a front of a history: the script, the media and the state tell all but what its line tells.
use Rattle.std.proofs.Common.{◌≡◌, ℕ, ◌-◌, ◌<◌, ◌≤◌, ◌^◌, true, List, [], ◌∷◌, ◌++◌, length, Option, Some, inl, inr, refl, ap, sym, subst, ◌∙◌, map, append_assoc, arith}
use Rattle.std.specs.Prelude.{◌==◌, ◌≢◌, slice_get, All}
use Rattle.std.specs.List.{AllByRecursion}
use Rattle.std.proofs.lemmas.List.Concat.{flat_map-append}
use Rattle.std.proofs.lemmas.List.Elements.{filter-append, recursion_from_All}
use Rattle.std.proofs.lemmas.Option.{slice_get_within}
use Rattle.std.proofs.lemmas.Bool.Decides.{eqb_tells}
use Rattle.cdm_world.proofs.ItemsAt.{get_here}
use Rattle.eme_types.specs.declared.limits.TheConstants.{MAX_LANES, MAX_SAMPLES}
use Rattle.eme_types.specs.declared.sample.EncSample.{EncSample}
use Rattle.eme_types.specs.declared.media.Fragment.{Fragment}
use Rattle.eme_types.specs.declared.media.Media.{Media}
use Rattle.eme_types.specs.declared.entry.Entry.{Entry}
use Rattle.eme_types.specs.declared.entry.Entry.TheVariants.{Call, Job, Task, Tick, Feed, Evict, Claim, Deliver, GiveUp, Publish, PassClear, WaitForKey, Settle}
use Rattle.script_lang.specs.declared.script.Line.{Line}
use Rattle.script_lang.specs.declared.script.Action.{Action}
use Rattle.script_lang.specs.declared.script.Action.TheVariants.{Ask, Feed as FeedAction, Clock, Evict as EvictAction, Settle as SettleAction}
use Rattle.cdm_world.specs.Tracks.{TrackState, find_track}
use Rattle.key_sessions.specs.Keys.{pick}
use Rattle.cdm_state.specs.History.{world, IsLegal, Allowed, IsAt, MayClaim}
use Rattle.cdm_state.specs.Output.{fed_at, fed_sample}
use Rattle.cdm_state.proofs.Histories.{allowed_next}
use Rattle.cdm_state.proofs.TrackIds.{state_id, world_ids}
use Rattle.output_order.specs.Lane.{line_with, line_of, lines_in, is_of_lane, lane, asked, asked_in, fed_by, feeds_in}
use Rattle.output_order.specs.Complete.{IsFront, HasLane, IsOfLine, IsBegun, feed_rest, implied}
use Rattle.output_order.specs.Staffed.{NamesWorker}
use Rattle.output_order.specs.Law.{IsOnTheWay}
use Rattle.output_order.proofs.LineReading.{Here, IsOfNext, MayCome, claim_on, next_index}
use Rattle.output_order.proofs.FedLengths.{track_samples}

-- a call, a tick and an eviction have a line
abbrev IsNumbered : Entry → Type 0
IsNumbered (Call lane line call) = line ≢ 0
IsNumbered (Tick line moment) = line ≢ 0
IsNumbered (Evict line label) = line ≢ 0
IsNumbered e = Unit {0}

of_line : (e : Entry) → IsOfLine e → IsNumbered e
of_line (Call lane line call) is = is
of_line (Tick line moment) is = is
of_line (Evict line label) is = is
of_line e is = tt

of_lines : (es : List Entry) → AllByRecursion IsOfLine es → AllByRecursion IsNumbered es
of_lines [] all = tt
of_lines (e ∷ es) all = (of_line e all.0, of_lines es all.1)

of_rest : (fs : List Fragment) → AllByRecursion IsNumbered (feed_rest fs)
of_rest [] = tt
of_rest (f ∷ fs) = (tt, (tt, of_rest fs))

of_implied : (fs : List Fragment) → AllByRecursion IsNumbered (implied fs)
of_implied fs = (tt, of_rest fs)

pub all_front : {A : Type 0} (P : A → Type 0) (xs ys : List A) → AllByRecursion P (xs ++ ys) → AllByRecursion P xs
all_front P [] ys all = tt
all_front P (x ∷ xs) ys all = (all.0, all_front P xs ys all.1)

pub all_behind : {A : Type 0} (P : A → Type 0) (xs ys : List A) → AllByRecursion P (xs ++ ys) → AllByRecursion P ys
all_behind P [] ys all = all
all_behind P (x ∷ xs) ys all = all_behind P xs ys all.1

all_both : {A : Type 0} (P : A → Type 0) (xs ys : List A) → AllByRecursion P xs → AllByRecursion P ys → AllByRecursion P (xs ++ ys)
all_both P [] ys a b = b
all_both P (x ∷ xs) ys a b = (a.0, all_both P xs ys a.1 b)

asked_numbered : (e : Entry) (es : List Entry) → AllByRecursion IsNumbered (asked e ++ es) → IsNumbered e
asked_numbered (Call lane line call) es all = all.0
asked_numbered (Tick line moment) es all = all.0
asked_numbered (Evict line label) es all = all.0
asked_numbered e es all = tt

same_number : (n : ℕ) → (n == n) ≡ true
same_number n = elim (eqb_tells n n) [ inl p ↦ p.0 | inr p ↦ absurd (p.1 refl) ]

-- how many lines of a lane a history has gone through
abbrev pub gone : List Entry → ℕ → ℕ
gone h i = length (lane (lines_in h) i)

-- what is known of the entry behind a front
pub record Follows (n : ℕ) (script : List Line) (media : Media) (c : List Entry) (e : Entry) : Type 0 where
  pub allowed : Allowed media.tracks c e
  pub next : (l : Line) → line_of e ≡ l ∷ [] → l.lane < MAX_LANES → slice_get (lane script l.lane) (gone c l.lane) ≡ Some l
  pub known : HasLane e
  pub given : (f : Option Fragment) → fed_by e ≡ f ∷ [] → f ≡ slice_get media.fragments (length (feeds_in c))
  pub numbered : IsNumbered e
  pub worker : NamesWorker n e

next_line : (script : List Line) (c : List Entry) (e : Entry) (r : List Entry) (l : Line) → line_of e ≡ l ∷ [] → IsFront (lane (lines_in (c ++ e ∷ r)) l.lane) (lane script l.lane) → slice_get (lane script l.lane) (gone c l.lane) ≡ Some l
next_line script c e r l is front =
    let i : ℕ = l.lane in
    let all : lines_in (c ++ e ∷ r) ≡ lines_in c ++ (l ∷ lines_in r) = flat_map-append line_of c (e ∷ r) ∙ ap (λ (ls : List Line). lines_in c ++ (ls ++ lines_in r)) is in
    let mine : lane (l ∷ lines_in r) i ≡ l ∷ lane (lines_in r) i = rw (same_number i) refl in
    let parted : lane (lines_in (c ++ e ∷ r)) i ≡ lane (lines_in c) i ++ (l ∷ lane (lines_in r) i) = ap (λ (ls : List Line). lane ls i) all ∙ (filter-append (is_of_lane i) (lines_in c) (l ∷ lines_in r) ∙ ap (λ (ls : List Line). lane (lines_in c) i ++ ls) mine) in
    let whole : lane script i ≡ lane (lines_in c) i ++ (l ∷ (lane (lines_in r) i ++ front.rest)) = sym front.is ∙ (ap (λ (ls : List Line). ls ++ front.rest) parted ∙ append_assoc (lane (lines_in c) i) (l ∷ lane (lines_in r) i) front.rest) in
    ap (λ (ls : List Line). slice_get ls (length (lane (lines_in c) i))) whole ∙ get_here (lane (lines_in c) i) l (lane (lines_in r) i ++ front.rest)

next_numbered : (script : List Line) (media : Media) (c : List Entry) (e : Entry) (r : List Entry) → IsBegun script media (c ++ e ∷ r) → IsNumbered e
next_numbered script media c e r begun =
    let i = begun.implied in
    let behind : AllByRecursion IsNumbered i.behind = all_front IsNumbered i.behind i.front.rest (subst (λ (es : List Entry). AllByRecursion IsNumbered es) (sym i.front.is) (of_implied _)) in
    let all : AllByRecursion IsNumbered (asked_in (c ++ e ∷ r)) = subst (λ (es : List Entry). AllByRecursion IsNumbered es) (sym i.is) (all_both IsNumbered i.lines i.behind (of_lines i.lines i.above) behind) in
    asked_numbered e (asked_in r) (all_behind IsNumbered (asked_in c) (asked e ++ asked_in r) (subst (λ (es : List Entry). AllByRecursion IsNumbered es) (flat_map-append asked c (e ∷ r)) all))

pub follows : (n : ℕ) (script : List Line) (media : Media) (c : List Entry) (e : Entry) (r : List Entry) → IsOnTheWay n script media (c ++ e ∷ r) → Follows n script media c e
follows n script media c e r way = record {
  allowed = allowed_next media.tracks c e r way.legal;
  next = λ l is low. next_line script c e r l is (way.begun.lanes l.lane low);
  known = way.begun.known (length c) e (get_here c e r);
  given = λ f is. way.begun.feeds (length (feeds_in c)) f (ap (λ (gs : List (Option Fragment)). slice_get gs (length (feeds_in c))) (flat_map-append fed_by c (e ∷ r) ∙ ap (λ (gs : List (Option Fragment)). feeds_in c ++ (gs ++ feeds_in r)) is) ∙ get_here (feeds_in c) f (feeds_in r));
  numbered = next_numbered script media c e r way.begun;
  worker = way.named (length c) e (get_here c e r);
}

-- what is known before the entry that follows a front
pub here : List Line → Media → List Entry → Here
here script media c = record {
  next = λ i. slice_get (lane script i) (gone c i);
  fragment = slice_get media.fragments (length (feeds_in c));
  state = world media.tracks c;
}

with_line : (number i : ℕ) (action : Action) → number ≢ 0 → line_with number i action ≡ record { number = number; lane = i; action = action } ∷ []
with_line number i action some = elim (eqb_tells number 0) [ inl p ↦ absurd (some p.1) | inr p ↦ rw p.0 refl ]

of_next : (n : ℕ) (script : List Line) (media : Media) (c : List Entry) (e : Entry) (line : ℕ) (action : Action) → line_of e ≡ line_with line 0 action → Follows n script media c e → IsOfNext (here script media c) line action
unfolding here
of_next n script media c e line action is f = elim (eqb_tells line 0) [
  | inl p ↦ inl p.1
  | inr p ↦ inr (p.1, f.next (record { number = line; lane = 0; action = action }) (is ∙ with_line line 0 action p.1) (omega arith))
]

found_id : (P : ℕ → Type 0) (ts : List TrackState) (id : ℕ) (t : TrackState) → AllByRecursion P (map state_id ts) → find_track ts id ≡ Some t → P id
found_id P [] id t all e = absurd cc
found_id P (s ∷ ts) id t all e = elim (eqb_tells s.id id) [
  | inl p ↦ subst P p.1 all.0
  | inr p ↦ found_id P ts id t all.1 (rw p.0 at e)
]

small_track : (ids : List ℕ) (h : List Entry) (id : ℕ) (t : TrackState) → All (λ k. k < 2 ^ 64) ids → find_track (world ids h).tracks id ≡ Some t → id < 2 ^ 64
small_track ids h id t small found =
    found_id (λ k. k < 2 ^ 64) (world ids h).tracks id t (subst (λ (ks : List ℕ). AllByRecursion (λ k. k < 2 ^ 64) ks) (sym (world_ids ids h)) (recursion_from_All (λ k. k < 2 ^ 64) ids small)) found

-- its places are told in full
abbrev pub IsShort : List Entry → Type 0
IsShort h = length h < 2 ^ 64

small_place : (h : List Entry) (place : ℕ) (e : Entry) → IsShort h → IsAt h place e → place < 2 ^ 64
small_place h place e short at =
    let within : place - 1 < length h = slice_get_within h (place - 1) e at.1 in
    omega (arith, within, at.0)

small_index : (ids : List ℕ) (h : List Entry) (id index : ℕ) (t : TrackState) (sample : EncSample) → IsLegal ids h → find_track (world ids h).tracks id ≡ Some t → slice_get t.fed index ≡ Some sample → index < 2 ^ 64
small_index ids h id index t sample legal found fed =
    let few : length t.fed ≤ MAX_SAMPLES = track_samples ids h id t legal found in
    let within : index < length t.fed = slice_get_within t.fed index sample fed in
    omega (arith, few, within)

the_claim : (ids : List ℕ) (h : List Entry) (worker track index session : ℕ) (kid : List ℕ) → MayClaim ids h track index session kid → claim_on (world ids h) worker track index ≡ Some (Claim worker track index session kid)
the_claim ids h worker track index session kid may =
    let sample : fed_sample (world ids h) track index ≡ Some may.sample = ap (λ (o : Option TrackState). fed_at o index) may.known ∙ may.fed in
    let picked : pick (world ids h).machine may.protect.kid ≡ Some (session, may.key) = ap (λ (k : List ℕ). pick (world ids h).machine k) may.same_id ∙ may.picked in
    rw (sample, may.protected, picked) (ap (λ (k : List ℕ). Some (Claim worker track index session k)) may.same_id)

-- the entry that follows a front may come there
pub may_come : (n : ℕ) (script : List Line) (media : Media) (c : List Entry) (e : Entry) → n < 2 ^ 64 → All (λ t. t < 2 ^ 64) media.tracks → IsShort c → IsLegal media.tracks c → Follows n script media c e → MayCome (here script media c) e
unfolding here
may_come n script media c (Call i line call) few small short legal f =
    let low : i < MAX_LANES = f.known in
    (omega (arith, low), f.next (record { number = line; lane = i; action = Ask call }) (with_line line i (Ask call) f.numbered) low)
may_come n script media c Job few small short legal f = tt
may_come n script media c Task few small short legal f = tt
may_come n script media c (Tick line moment) few small short legal f = f.next (record { number = line; lane = 0; action = Clock moment }) (with_line line 0 (Clock moment) f.numbered) (omega arith)
may_come n script media c (Feed line fragment) few small short legal f = (of_next n script media c (Feed line fragment) line FeedAction refl f, f.given fragment refl)
may_come n script media c (Evict line label) few small short legal f = f.next (record { number = line; lane = 0; action = EvictAction label }) (with_line line 0 (EvictAction label) f.numbered) (omega arith)
may_come n script media c (Claim worker track index session kid) few small short legal f =
    let may = f.allowed in
    let named : worker ≤ n = f.worker in
    (omega (arith, named, few), small_track media.tracks c track may.state small may.known, small_index media.tracks c track index may.state may.sample legal may.known may.fed, the_claim media.tracks c worker track index session kid may)
may_come n script media c (Deliver place verdict) few small short legal f = small_place c place _ short f.allowed.0.at
may_come n script media c (GiveUp place) few small short legal f = small_place c place _ short f.allowed.at
may_come n script media c (Publish track index place) few small short legal f =
    let may = f.allowed in
    (small_track media.tracks c track may.state small may.known, small_place c place may.live.claim short may.live.live.at, may.next ∙ ap next_index (sym may.known))
may_come n script media c (PassClear track index) few small short legal f =
    let may = f.allowed in
    (small_track media.tracks c track may.state small may.known, may.next ∙ ap next_index (sym may.known))
may_come n script media c (WaitForKey track) few small short legal f = small_track media.tracks c track f.allowed.state small f.allowed.known
may_come n script media c (Settle line) few small short legal f = of_next n script media c (Settle line) line SettleAction refl f
