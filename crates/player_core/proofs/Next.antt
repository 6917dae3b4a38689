-- Which step comes next: one alone is allowed and in turn.
use Rattle.std.proofs.Common.{zero, suc, ◌≡◌, ◌⊎◌, ◌↔◌, ℕ, ◌≤◌, ◌<◌, List, [], ◌∷◌, Some, map, slice_get, inl, inr, refl, ap, ◌∙◌, sym, subst, arith}
use Rattle.std.proofs.lemmas.Bool.{cases_order}
use Rattle.std.proofs.lemmas.Bool.Decides.{eqb_tells}
use Rattle.std.proofs.Math.Nat.{eq-or-lt_of_le}
use borrow.Author.Count.{below_none, below_more}
use Rattle.eme_types.specs.declared.sample.EncSample.{EncSample}
use Rattle.eme_types.specs.declared.sample.Protect.{Protect}
use Rattle.eme_types.specs.declared.kid.KeyBytes.{KeyBytes}
use Rattle.eme_types.specs.declared.entry.Entry.{Entry}
use Rattle.eme_types.specs.declared.entry.Entry.TheVariants.{Call, Job, Task, Tick, Feed, Evict, Claim, Deliver, GiveUp, Publish, PassClear, WaitForKey, Settle}
use Rattle.eme_types.specs.declared.entry.Verdict.{Verdict}
use Rattle.eme_types.specs.declared.entry.Verdict.TheVariants.{Taken, Stale}
use Rattle.key_sessions.specs.Keys.{pick}
use Rattle.cdm_world.specs.Tracks.{TrackState, find_track}
use Rattle.cdm_state.specs.History.{world, IsLegal, Allowed, Live, LiveOn, MayClaim, MayPublish, MayPassClear, MayWait}
use Rattle.cdm_state.specs.Contract.{ComesFirst}
use Rattle.cdm_state.specs.Progress.{NoneWaits}
use Rattle.cdm_state.proofs.Windows.{claims_each_once}
use Rattle.cdm_state.proofs.TrackIds.{state_id, world_ids}
use Rattle.output_order.specs.Lane.{asked}
use Rattle.output_order.proofs.Sizes.{some_same}
use Rattle.player_core.specs.Alone.{NoJob, NoTask, NoPublish, NoPass, NoClaim, PublishFirst, PassFirst, ClaimFirst, WaitFirst, InTurn}

-- the place of an entry's kind in the order; the calls, ticks, feeds and evictions of lines stand outside it
abbrev pub kind : Entry → ℕ
kind (Call lane line call) = 8
kind Job = 1
kind Task = 2
kind (Tick line moment) = 8
kind (Feed line fragment) = 8
kind (Evict line label) = 8
kind (Claim worker track index session kid) = 5
kind (Deliver place verdict) = 0
kind (GiveUp place) = 9
kind (Publish track index place) = 3
kind (PassClear track index) = 4
kind (WaitForKey track) = 6
kind (Settle line) = 7

-- no entry of the kind is allowed
abbrev NoneOf : List ℕ → List Entry → ℕ → Type 0
NoneOf ids h zero = NoneWaits h
NoneOf ids h (suc zero) = NoJob ids h
NoneOf ids h (suc (suc zero)) = NoTask ids h
NoneOf ids h (suc (suc (suc zero))) = NoPublish ids h
NoneOf ids h (suc (suc (suc (suc zero)))) = NoPass ids h
NoneOf ids h (suc (suc (suc (suc (suc zero))))) = NoClaim ids h
NoneOf ids h (suc (suc (suc (suc (suc (suc zero)))))) = (track : ℕ) → MayWait ids h track → ⊥
NoneOf ids h (suc (suc (suc (suc (suc (suc (suc k))))))) = Unit {0}

abbrev Below : List ℕ → List Entry → ℕ → Type 0
Below ids h n = (k : ℕ) → k < n → NoneOf ids h k

below_1 : (ids : List ℕ) (h : List Entry) → NoneWaits h → Below ids h 1
below_1 ids h a = below_more (NoneOf ids h) 0 (below_none (NoneOf ids h)) a

below_2 : (ids : List ℕ) (h : List Entry) → NoneWaits h → NoJob ids h → Below ids h 2
below_2 ids h a b = below_more (NoneOf ids h) 1 (below_1 ids h a) b

below_3 : (ids : List ℕ) (h : List Entry) → NoneWaits h → NoJob ids h → NoTask ids h → Below ids h 3
below_3 ids h a b c = below_more (NoneOf ids h) 2 (below_2 ids h a b) c

below_4 : (ids : List ℕ) (h : List Entry) → NoneWaits h → NoJob ids h → NoTask ids h → NoPublish ids h → Below ids h 4
below_4 ids h a b c d = below_more (NoneOf ids h) 3 (below_3 ids h a b c) d

below_5 : (ids : List ℕ) (h : List Entry) → NoneWaits h → NoJob ids h → NoTask ids h → NoPublish ids h → NoPass ids h → Below ids h 5
below_5 ids h a b c d e = below_more (NoneOf ids h) 4 (below_4 ids h a b c d) e

below_6 : (ids : List ℕ) (h : List Entry) → NoneWaits h → NoJob ids h → NoTask ids h → NoPublish ids h → NoPass ids h → NoClaim ids h → Below ids h 6
below_6 ids h a b c d e f = below_more (NoneOf ids h) 5 (below_5 ids h a b c d e) f

-- what comes in turn comes where no earlier kind is allowed
refused : (ids : List ℕ) (h : List Entry) (y : Entry) → kind y ≤ 7 → InTurn ids h y → Below ids h (kind y)
refused ids h (Call lane line call) le turn = absurd (omega (arith, le))
refused ids h Job le turn = below_1 ids h turn
refused ids h Task le turn = below_2 ids h turn.0 turn.1
refused ids h (Tick line moment) le turn = absurd (omega (arith, le))
refused ids h (Feed line fragment) le turn = absurd (omega (arith, le))
refused ids h (Evict line label) le turn = absurd (omega (arith, le))
refused ids h (Claim worker track index session kid) le turn = below_5 ids h turn.0 turn.1.jobs turn.1.tasks turn.1.publish turn.1.pass
refused ids h (Deliver place verdict) le turn = below_none (NoneOf ids h)
refused ids h (GiveUp place) le turn = absurd turn
refused ids h (Publish track index place) le turn = below_3 ids h turn.0 turn.1.jobs turn.1.tasks
refused ids h (PassClear track index) le turn = below_4 ids h turn.0 turn.1.jobs turn.1.tasks turn.1.publish
refused ids h (WaitForKey track) le turn = below_6 ids h turn.0 turn.1.jobs turn.1.tasks turn.1.publish turn.1.pass turn.1.claim
refused ids h (Settle line) le turn = below_more (NoneOf ids h) 6 (below_6 ids h turn.0 turn.1.jobs turn.1.tasks turn.1.publish turn.1.pass turn.1.claim) turn.1.wait

-- an allowed step is of an allowed kind
unrefused : (ids : List ℕ) (h : List Entry) (x : Entry) → kind x < 7 → Allowed ids h x → NoneOf ids h (kind x) → ⊥
unrefused ids h (Call lane line call) lt may none = absurd (omega (arith, lt))
unrefused ids h Job lt may none = may none
unrefused ids h Task lt may none = may none
unrefused ids h (Tick line moment) lt may none = absurd (omega (arith, lt))
unrefused ids h (Feed line fragment) lt may none = absurd (omega (arith, lt))
unrefused ids h (Evict line label) lt may none = absurd (omega (arith, lt))
unrefused ids h (Claim worker track index session kid) lt may none = none track index session kid may
unrefused ids h (Deliver place verdict) lt may none = none place may.0
unrefused ids h (GiveUp place) lt may none = absurd (omega (arith, lt))
unrefused ids h (Publish track index place) lt may none = none track index place may
unrefused ids h (PassClear track index) lt may none = none track index may
unrefused ids h (WaitForKey track) lt may none = none track may
unrefused ids h (Settle line) lt may none = absurd (omega (arith, lt))

-- no allowed step is of an earlier kind than what comes in turn
pub not_before : (ids : List ℕ) (h : List Entry) (x y : Entry) → kind x < 7 → Allowed ids h x → kind y ≤ 7 → InTurn ids h y → kind x < kind y → ⊥
not_before ids h x y lt may le turn before = unrefused ids h x lt may (refused ids h y le turn (kind x) before)

same_kind : (ids : List ℕ) (h : List Entry) (x y : Entry) → kind x < 7 → kind y < 7 → Allowed ids h x → Allowed ids h y → InTurn ids h x → InTurn ids h y → kind x ≡ kind y
same_kind ids h x y ltx lty mayx mayy turnx turny =
    let lex : kind x ≤ 7 = omega (arith, ltx) in
    let ley : kind y ≤ 7 = omega (arith, lty) in
    elim (cases_order (kind x) (kind y)) [
      | inl same ↦ same
      | inr other ↦ elim other [
        | inl less ↦ absurd (not_before ids h x y ltx mayx ley turny less)
        | inr more ↦ absurd (not_before ids h y x lty mayy lex turnx more)
      ]
    ]

known_place : (ts : List TrackState) (id : ℕ) (s : TrackState) → find_track ts id ≡ Some s → (i : ℕ) × (slice_get (map state_id ts) i ≡ Some id)
known_place [] id s e = absurd cc
known_place (t ∷ ts) id s e = elim (eqb_tells t.id id) [
  | inl p ↦ (0, ap (λ (n : ℕ). Some n) p.1)
  | inr p ↦ (let r = known_place ts id s (rw p.0 at e) in (suc r.0, r.1))
]

-- a track of the world stands among the ids
stands : (ids : List ℕ) (h : List Entry) (id : ℕ) (s : TrackState) → find_track (world ids h).tracks id ≡ Some s → (i : ℕ) × (slice_get ids i ≡ Some id)
stands ids h id s e =
    let r = known_place (world ids h).tracks id s e in
    (r.0, subst (λ (xs : List ℕ). slice_get xs r.0 ≡ Some id) (world_ids ids h) r.1)

both_from : (ids : List ℕ) (t u : ℕ) → ComesFirst ids t u → ComesFirst ids u t → (n i : ℕ) → i ≤ n → slice_get ids i ≡ Some t → t ≡ u
both_from ids t u a b zero i le at =
    let r = b i at in
    let same : r.0 ≡ i = omega (arith, r.1, le) in
    some_same (sym at ∙ (ap (λ k. slice_get ids k) (sym same) ∙ r.2))
both_from ids t u a b (suc n) i le at =
    let r = b i at in
    let q = a r.0 r.2 in
    elim (eq-or-lt_of_le q.1) [
      | inl same ↦ some_same (sym q.2 ∙ (ap (λ k. slice_get ids k) same ∙ r.2))
      | inr less ↦ both_from ids t u a b n q.0 (omega (arith, less, r.1, le)) q.2
    ]

-- two tracks of which each comes first are one
both_first : (ids : List ℕ) (h : List Entry) (t u : ℕ) (s : TrackState) → find_track (world ids h).tracks t ≡ Some s → ComesFirst ids t u → ComesFirst ids u t → t ≡ u
both_first ids h t u s known a b =
    let r = stands ids h t s known in
    let le : r.0 ≤ r.0 = omega arith in
    both_from ids t u a b r.0 r.0 le r.1

same_state : (ids : List ℕ) (h : List Entry) (t u : ℕ) (s v : TrackState) → t ≡ u → find_track (world ids h).tracks t ≡ Some s → find_track (world ids h).tracks u ≡ Some v → s ≡ v
same_state ids h t u s v track a b = some_same (sym a ∙ (ap (λ n. find_track (world ids h).tracks n) track ∙ b))

publish_same : (ids : List ℕ) (h : List Entry) (t i p u j q : ℕ) → IsLegal ids h → MayPublish ids h t i p → MayPublish ids h u j q → PublishFirst ids h t → PublishFirst ids h u → Publish t i p ≡ Publish u j q
publish_same ids h t i p u j q legal a b first other =
    let track : t ≡ u = both_first ids h t u a.state a.known (first.first u j q b) (other.first t i p a) in
    let state : a.state ≡ b.state = same_state ids h t u a.state b.state track a.known b.known in
    let index : i ≡ j = a.next ∙ (ap (λ (s : TrackState). s.published) state ∙ sym b.next) in
    let live : LiveOn ids h p u j = subst (λ n. LiveOn ids h p n j) track (subst (λ n. LiveOn ids h p t n) index a.live) in
    let place : p ≡ q = claims_each_once ids h u j p q legal live b.live in
    ap (λ n. Publish n i p) track ∙ (ap (λ n. Publish u n p) index ∙ ap (λ n. Publish u j n) place)

pass_same : (ids : List ℕ) (h : List Entry) (t i u j : ℕ) → MayPassClear ids h t i → MayPassClear ids h u j → PassFirst ids h t → PassFirst ids h u → PassClear t i ≡ PassClear u j
pass_same ids h t i u j a b first other =
    let track : t ≡ u = both_first ids h t u a.state a.known (first.first u j b) (other.first t i a) in
    let state : a.state ≡ b.state = same_state ids h t u a.state b.state track a.known b.known in
    let index : i ≡ j = a.next ∙ (ap (λ (s : TrackState). s.published) state ∙ sym b.next) in
    ap (λ n. PassClear n i) track ∙ ap (λ n. PassClear u n) index

claim_same : (ids : List ℕ) (h : List Entry) (w t i s : ℕ) (kid : List ℕ) (v u j r : ℕ) (other_kid : List ℕ) → MayClaim ids h t i s kid → MayClaim ids h u j r other_kid → ClaimFirst ids h w t i → ClaimFirst ids h v u j → Claim w t i s kid ≡ Claim v u j r other_kid
claim_same ids h w t i s kid v u j r other_kid a b first other =
    let ab = first.first u j r other_kid b in
    let ba = other.first t i s kid a in
    let track : t ≡ u = both_first ids h t u a.state a.known ab.0 ba.0 in
    let state : a.state ≡ b.state = same_state ids h t u a.state b.state track a.known b.known in
    let le : i ≤ j = ab.1 (sym track) in
    let ge : j ≤ i = ba.1 track in
    let index : i ≡ j = omega (arith, le, ge) in
    let sample : a.sample ≡ b.sample = some_same (sym a.fed ∙ (ap (λ (x : TrackState). slice_get x.fed i) state ∙ (ap (λ n. slice_get b.state.fed n) index ∙ b.fed))) in
    let protect : a.protect ≡ b.protect = some_same (sym a.protected ∙ (ap (λ (x : EncSample). x.protect) sample ∙ b.protected)) in
    let id : kid ≡ other_kid = sym a.same_id ∙ (ap (λ (x : Protect). x.kid) protect ∙ b.same_id) in
    let session : s ≡ r = ap (λ (x : ℕ × KeyBytes). x.0) (some_same (sym a.picked ∙ (ap (λ k. pick (world ids h).machine k) id ∙ b.picked))) in
    let worker : w ≡ v = first.worker_ ∙ sym other.worker_ in
    ap (λ n. Claim n t i s kid) worker ∙ (ap (λ n. Claim v n i s kid) track ∙ (ap (λ n. Claim v u n s kid) index ∙ (ap (λ n. Claim v u j n kid) session ∙ ap (λ k. Claim v u j r k) id)))

wait_same : (ids : List ℕ) (h : List Entry) (t u : ℕ) → MayWait ids h t → MayWait ids h u → WaitFirst ids h t → WaitFirst ids h u → WaitForKey t ≡ WaitForKey u
wait_same ids h t u a b first other = ap WaitForKey (both_first ids h t u a.state a.known (first.first u b) (other.first t a))

verdict_same : {L : Type 0} (v u : Verdict) → (v ≡ Taken) ↔ L → (u ≡ Taken) ↔ L → v ≡ u
verdict_same Taken Taken a b = refl
verdict_same Taken Stale a b = sym (b.1 (a.0 refl))
verdict_same Stale Taken a b = a.1 (b.0 refl)
verdict_same Stale Stale a b = refl

deliver_same : (ids : List ℕ) (h : List Entry) (p q : ℕ) (v u : Verdict) → Allowed ids h (Deliver p v) → Allowed ids h (Deliver q u) → p ≡ q → Deliver p v ≡ Deliver q u
deliver_same ids h p q v u a b place =
    let verdict : v ≡ u = verdict_same v u (subst (λ n. (v ≡ Taken) ↔ Live ids h n) place a.1) b.1 in
    ap (λ n. Deliver n v) place ∙ ap (λ x. Deliver q x) verdict

same_of_kind : (ids : List ℕ) (h : List Entry) (x y : Entry) → IsLegal ids h → Allowed ids h x → Allowed ids h y → InTurn ids h x → InTurn ids h y → kind x ≡ kind y → kind x < 7 → x ≡ y
same_of_kind ids h Job Job legal a b turn other same lt = refl
same_of_kind ids h Task Task legal a b turn other same lt = refl
same_of_kind ids h (Claim w t i s kid) (Claim v u j r other_kid) legal a b turn other same lt = claim_same ids h w t i s kid v u j r other_kid a b turn.1 other.1
same_of_kind ids h (Deliver p v) (Deliver q u) legal a b turn other same lt = deliver_same ids h p q v u a b (turn ∙ sym other)
same_of_kind ids h (Publish t i p) (Publish u j q) legal a b turn other same lt = publish_same ids h t i p u j q legal a b turn.1 other.1
same_of_kind ids h (PassClear t i) (PassClear u j) legal a b turn other same lt = pass_same ids h t i u j a b turn.1 other.1
same_of_kind ids h (WaitForKey t) (WaitForKey u) legal a b turn other same lt = wait_same ids h t u a b turn.1 other.1
same_of_kind _ _ _ _ _ _ _ _ _ same lt = absurd (omega (arith, same, lt))

-- two steps that are allowed and in turn are one
pub same_step : (ids : List ℕ) (h : List Entry) (x y : Entry) → IsLegal ids h → kind x < 7 → kind y < 7 → Allowed ids h x → Allowed ids h y → InTurn ids h x → InTurn ids h y → x ≡ y
same_step ids h x y legal ltx lty a b turn other = same_of_kind ids h x y legal a b turn other (same_kind ids h x y ltx lty a b turn other) ltx

-- what comes in turn is a line's or implied, or a step
pub asked_or_step : (ids : List ℕ) (h : List Entry) (e : Entry) → InTurn ids h e → (asked e ≡ e ∷ []) ⊎ ((asked e ≡ []) × (kind e < 7))
asked_or_step ids h (Call lane line call) turn = inl refl
asked_or_step ids h Job turn = inr (refl, omega arith)
asked_or_step ids h Task turn = inr (refl, omega arith)
asked_or_step ids h (Tick line moment) turn = inl refl
asked_or_step ids h (Feed line fragment) turn = inl refl
asked_or_step ids h (Evict line label) turn = inl refl
asked_or_step ids h (Claim worker track index session kid) turn = inr (refl, omega arith)
asked_or_step ids h (Deliver place verdict) turn = inr (refl, omega arith)
asked_or_step ids h (GiveUp place) turn = absurd turn
asked_or_step ids h (Publish track index place) turn = inr (refl, omega arith)
asked_or_step ids h (PassClear track index) turn = inr (refl, omega arith)
asked_or_step ids h (WaitForKey track) turn = inr (refl, omega arith)
asked_or_step ids h (Settle line) turn = inl refl
