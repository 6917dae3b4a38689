-- The claims that are kept, after a new claim and after a delivery.
use Rattle.std.proofs.Common.{zero, suc, ◌≡◌, ℕ, ◌+◌, ◌-◌, ◌≤◌, ◌⊎◌, inl, inr, true, false, List, [], ◌∷◌, ◌++◌, length, take, Option, Some, None, refl, ap, sym, subst, ◌∙◌, arith, length-append}
use Rattle.std.specs.Prelude.{slice_get}
use Rattle.std.proofs.lemmas.List.{length-take, take_all}
use Rattle.std.proofs.lemmas.List.Elements.{Contains-append_right}
use Rattle.std.proofs.lemmas.Bool.Decides.{eqb_tells}
use Rattle.eme_types.specs.declared.entry.Entry.{Entry}
use Rattle.eme_types.specs.declared.entry.Entry.TheVariants.{Call, Job, Task, Tick, Feed, Evict, Claim, Deliver, GiveUp, Publish, PassClear, WaitForKey, Settle}
use Rattle.eme_types.specs.declared.entry.Verdict.TheVariants.{Taken, Stale}
use Rattle.eme_types.specs.declared.kid.KeyBytes.{KeyBytes}
use Rattle.key_claims.specs.TracksState.{ClaimState}
use Rattle.key_sessions.specs.Machine.{SessionState, Machine, session_at}
use Rattle.key_sessions.specs.Keys.{held_key, key_of, usable_key, or_else, pick_from, pick}
use Rattle.key_sessions.specs.World.{World}
use Rattle.cdm_state.specs.Slots.{entry_of}
use Rattle.key_claims.specs.Claims.{give_clear, has_place}
use Rattle.cdm_world.specs.In.{In}
use Rattle.cdm_state.specs.Claims.{ClaimsKept, ClearKept}
use Rattle.key_claims.specs.Kept.{Once}
use Rattle.cdm_state.specs.History.{world, IsAt, IsLegal, Allowed, Ends, Spends, HoldsFor, Live, LiveAs}
use Rattle.cdm_state.proofs.Places.{either_place, slice_get_last}
use Rattle.cdm_state.proofs.Histories.{world_more}
use Rattle.cdm_state.proofs.Live.{SameKeys, clear_more, claims_stay, live_before, at_within, live_less, live_more, live_now, same_held}
use Rattle.cdm_state.proofs.Plain.{some_alone}
use Rattle.cdm_world.proofs.Members.{In_left, In_right, In_more}

pick_case : (moment n : ℕ) (x : SessionState) (xs : List SessionState) (kid : List ℕ) (s : ℕ) (k : KeyBytes) (u : Option KeyBytes) → usable_key moment x kid ≡ u → or_else u n (pick_from moment (n + 1) xs kid) ≡ Some (s, k) → (pick_from moment (n + 1) xs kid ≡ Some (s, k) → (n + 1 ≤ s) × (key_of moment (slice_get xs (s - (n + 1))) kid ≡ Some k)) → (n ≤ s) × (key_of moment (slice_get (x ∷ xs) (s - n)) kid ≡ Some k)
pick_case moment n x xs kid s k None is e rest =
    let r = rest e in
    let g : s - n ≡ suc (s - (n + 1)) = omega (arith, r.0) in
    (omega (arith, r.0), rw g r.1)
pick_case moment n x xs kid s k (Some l) is e rest =
    let z = some_alone (n, l) (s, k) e in
    let same : n ≡ s = ap (λ (y : ℕ × KeyBytes). y.0) z in
    let g : s - n ≡ 0 = omega (arith, same) in
    (omega (arith, same), rw g (is ∙ ap (λ (y : ℕ × KeyBytes). Some y.1) z))

pick_from_holds : (moment n : ℕ) (ss : List SessionState) (kid : List ℕ) (s : ℕ) (k : KeyBytes) → pick_from moment n ss kid ≡ Some (s, k) → (n ≤ s) × (key_of moment (slice_get ss (s - n)) kid ≡ Some k)
pick_from_holds moment n [] kid s k e = absurd cc
pick_from_holds moment n (x ∷ xs) kid s k e = pick_case moment n x xs kid s k (usable_key moment x kid) refl e (λ f. pick_from_holds moment (n + 1) xs kid s k f)

from_one : (moment : ℕ) (ss : List SessionState) (kid : List ℕ) (s : ℕ) (k : KeyBytes) → 1 ≤ s → key_of moment (slice_get ss (s - 1)) kid ≡ Some k → key_of moment (session_at ss s) kid ≡ Some k
from_one moment ss kid zero k one e = absurd (omega arith)
from_one moment ss kid (suc i) k one e = (let p : suc i - 1 ≡ i = omega arith in rw p at e)

-- the session of a pick holds the key
pub pick_holds : (m : Machine) (kid : List ℕ) (s : ℕ) (k : KeyBytes) → pick m kid ≡ Some (s, k) → held_key m s kid ≡ Some k
pick_holds m kid s k e = (let r = pick_from_holds m.moment 1 m.sessions kid s k e in from_one m.moment m.sessions kid s k r.0 r.1)

-- an entry that ends or spends a claim names a place before it
place_before : (ids : List ℕ) (h : List Entry) (e : Entry) (p : ℕ) → Allowed ids h e → Ends e p ⊎ Spends e p → p ≤ length h
place_before ids h (Call lane line call) p allowed (inl x) = absurd x
place_before ids h (Call lane line call) p allowed (inr x) = absurd x
place_before ids h Job p allowed (inl x) = absurd x
place_before ids h Job p allowed (inr x) = absurd x
place_before ids h Task p allowed (inl x) = absurd x
place_before ids h Task p allowed (inr x) = absurd x
place_before ids h (Tick line moment) p allowed (inl x) = absurd x
place_before ids h (Tick line moment) p allowed (inr x) = absurd x
place_before ids h (Feed line fragment) p allowed (inl x) = absurd x
place_before ids h (Feed line fragment) p allowed (inr x) = absurd x
place_before ids h (Evict line label) p allowed (inl x) = absurd x
place_before ids h (Evict line label) p allowed (inr x) = absurd x
place_before ids h (Claim worker track index session kid) p allowed (inl x) = absurd x
place_before ids h (Claim worker track index session kid) p allowed (inr x) = absurd x
place_before ids h (Deliver place verdict) p allowed (inl x) = absurd x
place_before ids h (Deliver place verdict) p allowed (inr x) = omega (arith, x, at_within h place _ allowed.0.at)
place_before ids h (GiveUp place) p allowed (inl x) = omega (arith, x, at_within h place _ allowed.at)
place_before ids h (GiveUp place) p allowed (inr x) = omega (arith, x, at_within h place _ allowed.at)
place_before ids h (Publish track index place) p allowed (inl x) = omega (arith, x, at_within h place _ allowed.live.live.at)
place_before ids h (Publish track index place) p allowed (inr x) = absurd x
place_before ids h (PassClear track index) p allowed (inl x) = absurd x
place_before ids h (PassClear track index) p allowed (inr x) = absurd x
place_before ids h (WaitForKey track) p allowed (inl x) = absurd x
place_before ids h (WaitForKey track) p allowed (inr x) = absurd x
place_before ids h (Settle line) p allowed (inl x) = absurd x
place_before ids h (Settle line) p allowed (inr x) = absurd x

-- so no entry of a legal history names the place behind it
pub none_names_next : (ids : List ℕ) (h : List Entry) (n : ℕ) (e : Entry) → IsLegal ids h → slice_get h n ≡ Some e → Ends e (length h + 1) ⊎ Spends e (length h + 1) → ⊥
unfolding IsLegal
none_names_next ids h n e legal at names =
    let before = place_before ids (take n h) e (length h + 1) (legal n e at) names in
    omega (arith, before, length-take n h)

-- the place of the last entry
last_place : (h : List Entry) (e x : Entry) (c : ℕ) → IsAt (h ++ e ∷ []) c x → (IsAt h c x) ⊎ ((x ≡ e) × (c ≡ length h + 1))
last_place h e x c at = elim (either_place h e (c - 1) x at.1) [ inl p ↦ inl (at.0, p.0) | inr p ↦ inr (p.0, omega (arith, at.0, p.2)) ]

entry_ends : (s : ClaimState) (p : ℕ) → Ends (entry_of s) p ⊎ Spends (entry_of s) p → ⊥
entry_ends s p (inl x) = x
entry_ends s p (inr x) = x

once_new : (xs : List ClaimState) (s : ClaimState) → ((t : ClaimState) → In xs t → t.place ≡ s.place → ⊥) → Once xs → Once (xs ++ s ∷ [])
once_new [] s new once = ((λ t there. absurd there), tt)
once_new (x ∷ xs) s new once = ((λ t there same. elim (In_more xs s t there) [ inl b ↦ once.0 t b same | inr e ↦ new x (inl refl) (same ∙ ap (λ (u : ClaimState). u.place) (sym e)) ]), once_new xs s (λ t there. new t (inr there)) once.1)

-- a new claim is live, beside those that were
pub claims_new : (ids : List ℕ) (h : List Entry) (claims : List ClaimState) (s : ClaimState) → IsLegal ids h → s.place ≡ length h + 1 → s.clear ≡ None → held_key (world ids h).machine s.session s.kid ≡ Some s.key → ClaimsKept ids h claims → ClaimsKept ids (h ++ entry_of s ∷ []) (claims ++ s ∷ [])
claims_new ids h claims s legal here waits holds kept =
    let e = entry_of s in
    let same : (world ids (h ++ e ∷ [])).machine ≡ (world ids h).machine = ap (λ (w : World). w.machine) (world_more ids h e) in
    let keys : SameKeys (world ids h).machine (world ids (h ++ e ∷ [])).machine = record { sessions = ap (λ (m : Machine). m.sessions) same; moment = ap (λ (m : Machine). m.moment) same } in
    let fresh : (n : ℕ) (x : Entry) → slice_get (h ++ e ∷ []) n ≡ Some x → Ends x s.place ⊎ Spends x s.place → ⊥ =
    λ n x at names. elim (either_place h e n x at) [
      | inl p ↦ none_names_next ids h n x legal p.0 (subst (λ (q : ℕ). Ends x q ⊎ Spends x q) here names)
      | inr p ↦ entry_ends s s.place (subst (λ (y : Entry). Ends y s.place ⊎ Spends y s.place) p.0 names)
    ] in
    let at : IsAt (h ++ e ∷ []) s.place e = (omega (arith, here), (let g : s.place - 1 ≡ length h = omega (arith, here) in rw g (slice_get_last h e))) in
    let now : HoldsFor (world ids (h ++ e ∷ [])) e s.key = same_held (world ids h).machine (world ids (h ++ e ∷ [])).machine s.session s.kid keys ∙ holds in
    let live : LiveAs ids (h ++ e ∷ []) s.place e s.key = record {
      at = at;
      held = λ n from to. (let all : length (h ++ e ∷ []) ≤ n = omega (arith, from, here, length-append h (e ∷ [])) in subst (λ (g : List Entry). HoldsFor (world ids g) e s.key) (sym (take_all n (h ++ e ∷ []) all)) now);
      unended = λ n x there ends. fresh n x there (inl ends);
    } in
    let old : (t : ClaimState) → In claims t → LiveAs ids (h ++ e ∷ []) t.place (entry_of t) t.key = λ t there. live_more ids h e t.place (entry_of t) t.key (kept.live t there) (same_held (world ids h).machine (world ids (h ++ e ∷ [])).machine t.session t.kid keys ∙ live_now ids h t.place (entry_of t) t.key (kept.live t there)) (λ x. x) in
    record {
      live = λ t there. elim (In_more claims s t there) [ inl b ↦ old t b | inr same ↦ subst (λ (u : ClaimState). LiveAs ids (h ++ e ∷ []) u.place (entry_of u) u.key) same live ];
      all = λ c l. elim (last_place h e l.0 c l.2.at) [
        | inl p ↦ (let found = kept.all c (l.0, l.1, live_less ids h e c l.0 l.1 l.2 (at_within h c l.0 p)) in (found.0, In_left claims (s ∷ []) found.0 found.1, found.2))
        | inr p ↦ (s, In_right claims (s ∷ []) s (inl refl), here ∙ sym p.1)
      ];
      clear = λ t there. elim (In_more claims s t there) [
        | inl b ↦ clear_more h e t.place t.clear (λ x. x) (kept.clear t b)
        | inr same ↦ subst (λ (u : ClaimState). ClearKept (h ++ e ∷ []) u.place u.clear) same (rw waits (record { worker = s.worker; track = s.track; index = s.index; session = s.session; kid = s.kid; at = at; none = λ n x there d. fresh n x there (inr d) }))
      ];
      once = once_new claims s (λ t there same. (let before = at_within h t.place (entry_of t) (kept.live t there).at in omega (arith, before, here, same))) kept.once;
    }

-- what a claim is, but for its clear bytes
pub record SameClaim (s t : ClaimState) : Type 0 where
  pub place : s.place ≡ t.place
  pub entry : entry_of s ≡ entry_of t
  pub key : s.key ≡ t.key

same_claim : (s : ClaimState) → SameClaim s s
same_claim s = record { place = refl; entry = refl; key = refl }

-- where a claim of the list with the clear bytes comes from
pub record GivenFrom (place : ℕ) (clear : List ℕ) (claims : List ClaimState) (s : ClaimState) : Type 0 where
  pub old : ClaimState
  pub there : In claims old
  pub same : SameClaim s old
  pub which : ((s ≡ old) × (place ≡ old.place → ⊥)) ⊎ ((old.place ≡ place) × (s.clear ≡ Some clear))

pub given_from : (place : ℕ) (clear : List ℕ) (claims : List ClaimState) (s : ClaimState) → Once claims → In (give_clear place clear claims) s → GivenFrom place clear claims s
given_from place clear [] s once there = absurd there
given_from place clear (x ∷ xs) s once there = elim (eqb_tells x.place place) [
  | inl p ↦ first p.1 (rw p.0 at there)
  | inr p ↦ later p.1 (rw p.0 at there) (λ m. given_from place clear xs s once.1 m)
] where
  first : x.place ≡ place → In (record x { clear = Some clear } ∷ xs) s → GivenFrom place clear (x ∷ xs) s
  first at (inl e) = record { old = x; there = inl refl; same = subst (λ (t : ClaimState). SameClaim t x) e (record { place = refl; entry = refl; key = refl }); which = inr (at, ap (λ (t : ClaimState). t.clear) (sym e)) }
  first at (inr m) = record { old = s; there = inr m; same = same_claim s; which = inl (refl, λ same. once.0 s m (at ∙ same)) }

  later : (x.place ≡ place → ⊥) → In (x ∷ give_clear place clear xs) s → (In (give_clear place clear xs) s → GivenFrom place clear xs s) → GivenFrom place clear (x ∷ xs) s
  later ne (inl e) rest = record { old = x; there = inl refl; same = subst (λ (t : ClaimState). SameClaim t x) e (same_claim x); which = inl (sym e, λ same. ne (sym same)) }
  later ne (inr m) rest = (let g = rest m in record { old = g.old; there = inr g.there; same = g.same; which = g.which })

given_to : (place : ℕ) (clear : List ℕ) (claims : List ClaimState) (t : ClaimState) → In claims t → (s : ClaimState) × In (give_clear place clear claims) s × (s.place ≡ t.place)
given_to place clear [] t there = absurd there
given_to place clear (x ∷ xs) t (inl e) = elim (eqb_tells x.place place) [
  | inl p ↦ rw p.0 (record x { clear = Some clear }, inl refl, ap (λ (u : ClaimState). u.place) e)
  | inr p ↦ rw p.0 (x, inl refl, ap (λ (u : ClaimState). u.place) e)
]
given_to place clear (x ∷ xs) t (inr m) = elim (eqb_tells x.place place) [
  | inl p ↦ rw p.0 (t, inr m, refl)
  | inr p ↦ (let g = given_to place clear xs t m in rw p.0 (g.0, inr g.1, g.2))
]

given_once : (place : ℕ) (clear : List ℕ) (claims : List ClaimState) → Once claims → Once (give_clear place clear claims)
given_once place clear [] once = tt
given_once place clear (x ∷ xs) once = elim (eqb_tells x.place place) [
  | inl p ↦ rw p.0 ((λ t there same. once.0 t there same), once.1)
  | inr p ↦ rw p.0 ((λ t there same. (let g = given_from place clear xs t once.1 there in once.0 g.old g.there (same ∙ g.same.place))), given_once place clear xs once.1)
]

-- after a delivery that was taken
pub claims_taken : (ids : List ℕ) (h : List Entry) (place : ℕ) (clear : List ℕ) (claims : List ClaimState) → ClaimsKept ids h claims → ClaimsKept ids (h ++ Deliver place Taken ∷ []) (give_clear place clear claims)
claims_taken ids h place clear claims kept =
    let e = Deliver place Taken in
    let same : (world ids (h ++ e ∷ [])).machine ≡ (world ids h).machine = ap (λ (w : World). w.machine) (world_more ids h e) in
    let keys : SameKeys (world ids h).machine (world ids (h ++ e ∷ [])).machine = record { sessions = ap (λ (m : Machine). m.sessions) same; moment = ap (λ (m : Machine). m.moment) same } in
    let old : (t : ClaimState) → In claims t → LiveAs ids (h ++ e ∷ []) t.place (entry_of t) t.key = λ t there. live_more ids h e t.place (entry_of t) t.key (kept.live t there) (same_held (world ids h).machine (world ids (h ++ e ∷ [])).machine t.session t.kid keys ∙ live_now ids h t.place (entry_of t) t.key (kept.live t there)) (λ x. x) in
    record {
      live = λ s there. (let g = given_from place clear claims s kept.once there in moved s g.old g.same (old g.old g.there));
      all = λ c l. (let found = kept.all c (live_before ids h e c (λ w t i n k x. cc) l) in let g = given_to place clear claims found.0 found.1 in (g.0, g.1, g.2 ∙ found.2));
      clear = λ s there. (let g = given_from place clear claims s kept.once there in elim g.which [
        | inl w ↦ subst (λ (u : ClaimState). ClearKept (h ++ e ∷ []) u.place u.clear) (sym w.0) (clear_more h e g.old.place g.old.clear w.1 (kept.clear g.old g.there))
        | inr w ↦ rw (w.1, g.same.place, w.0) (Contains-append_right h (e ∷ []) e (0, omega arith, refl))
      ]);
      once = given_once place clear claims kept.once;
    }
  where
    moved : (s t : ClaimState) → SameClaim s t → LiveAs ids (h ++ Deliver place Taken ∷ []) t.place (entry_of t) t.key → LiveAs ids (h ++ Deliver place Taken ∷ []) s.place (entry_of s) s.key
    moved s t same live = rw (same.place, same.entry, same.key) live

no_place : (place : ℕ) (claims : List ClaimState) (s : ClaimState) → has_place place claims ≡ false → In claims s → s.place ≡ place → ⊥
no_place place [] s e there at = there
no_place place (x ∷ xs) s e (inl same) at = (let here : x.place ≡ place = ap (λ (t : ClaimState). t.place) same ∙ at in elim (eqb_tells x.place place) [ inl p ↦ (let z = rw p.0 at e in absurd cc) | inr p ↦ p.1 here ])
no_place place (x ∷ xs) s e (inr m) at = elim (eqb_tells x.place place) [ inl p ↦ (let z = rw p.0 at e in absurd cc) | inr p ↦ no_place place xs s (rw p.0 at e) m at ]

-- a claim that is not kept is not live
pub not_live : (ids : List ℕ) (h : List Entry) (place : ℕ) (claims : List ClaimState) → ClaimsKept ids h claims → has_place place claims ≡ false → Live ids h place → ⊥
not_live ids h place claims kept none live = (let found = kept.all place live in no_place place claims found.0 none found.1 found.2)

some_place : (place : ℕ) (claims : List ClaimState) → has_place place claims ≡ true → (s : ClaimState) × In claims s × (s.place ≡ place)
some_place place [] e = absurd cc
some_place place (x ∷ xs) e = elim (eqb_tells x.place place) [
  | inl p ↦ (x, inl refl, p.1)
  | inr p ↦ (let r = some_place place xs (rw p.0 at e) in (r.0, inr r.1, r.2))
]

-- a claim that is kept is live
pub is_live : (ids : List ℕ) (h : List Entry) (place : ℕ) (claims : List ClaimState) → ClaimsKept ids h claims → has_place place claims ≡ true → Live ids h place
is_live ids h place claims kept some = (let found = some_place place claims some in subst (λ (p : ℕ). Live ids h p) found.2 (entry_of found.0, found.0.key, kept.live found.0 found.1))

-- after a delivery that came too late
pub claims_stale : (ids : List ℕ) (h : List Entry) (place : ℕ) (claims : List ClaimState) → has_place place claims ≡ false → ClaimsKept ids h claims → ClaimsKept ids (h ++ Deliver place Stale ∷ []) claims
claims_stale ids h place claims none kept =
    let e = Deliver place Stale in
    let same : (world ids (h ++ e ∷ [])).machine ≡ (world ids h).machine = ap (λ (w : World). w.machine) (world_more ids h e) in
    claims_stay ids h e claims (record { plain = λ w t i n k x. cc; ends = λ p x. x; spends = λ s there at. no_place place claims s none there (sym at) }) (record { sessions = ap (λ (m : Machine). m.sessions) same; moment = ap (λ (m : Machine). m.moment) same }) kept
