-- Live claims, as the history goes on.
use Rattle.std.proofs.Common.{zero, suc, ◌≡◌, ℕ, ◌-◌, ◌<◌, ◌≤◌, Bool, true, false, List, [], ◌∷◌, ◌++◌, length, take, Option, Some, None, inl, inr, refl, ap, sym, subst, ◌∙◌, arith, length-append}
use Rattle.std.specs.Prelude.{slice_get, filter, if◌then◌else◌, not}
use Rattle.std.proofs.lemmas.List.{take-append-le, take_all}
use Rattle.std.proofs.Math.Nat.{eq-or-lt_of_le}
use Rattle.std.proofs.lemmas.Option.{slice_get_within}
use Rattle.std.proofs.lemmas.List.Elements.{Contains-append_left}
use Rattle.std.proofs.lemmas.Slice.Eq.{bytes_eq-Decides}
use Rattle.std.proofs.lemmas.Bool.Decides.{eqb_tells}
use Rattle.eme_types.specs.declared.entry.Entry.{Entry}
use Rattle.eme_types.specs.declared.entry.Entry.TheVariants.{Call, Job, Task, Tick, Feed, Evict, Claim, Deliver, GiveUp, Publish, PassClear, WaitForKey, Settle}
use Rattle.eme_types.specs.declared.entry.Verdict.TheVariants.{Taken}
use Rattle.eme_types.specs.declared.kid.KeyBytes.{KeyBytes}
use Rattle.key_claims.specs.TracksState.{ClaimState}
use Rattle.key_sessions.specs.Machine.{Machine}
use Rattle.key_sessions.specs.Keys.{held_key}
use Rattle.key_sessions.specs.World.{World}
use Rattle.cdm_state.specs.Slots.{entry_of, is_key, holds_still}
use Rattle.key_claims.specs.Claims.{is_other}
use Rattle.cdm_world.specs.In.{In}
use Rattle.cdm_state.specs.Claims.{ClaimsKept, ClearKept}
use Rattle.key_claims.specs.Kept.{Once}
use Rattle.cdm_state.specs.History.{world, IsAt, Ends, Spends, HoldsFor, Live, LiveAs, Undelivered}
use Rattle.cdm_state.proofs.Places.{either_place, slice_get_left, slice_get_last, IsPlain}
use Rattle.cdm_state.proofs.Plain.{some_alone}
use Rattle.key_claims.proofs.Sound.{once_filter}
use Rattle.cdm_world.proofs.Members.{In_filter}

slice_get_back : (h : List Entry) (e x : Entry) (n : ℕ) → n < length h → slice_get (h ++ e ∷ []) n ≡ Some x → slice_get h n ≡ Some x
slice_get_back [] e x n lt at = absurd (omega arith)
slice_get_back (y ∷ h) e x zero lt at = at
slice_get_back (y ∷ h) e x (suc n) lt at = slice_get_back h e x n (omega arith) at

pub take_left : (h : List Entry) (e : Entry) (n : ℕ) → n ≤ length h → take n (h ++ e ∷ []) ≡ take n h
take_left h e n le = rw take-append-le refl

pub at_within : (h : List Entry) (place : ℕ) (e : Entry) → IsAt h place e → place ≤ length h
at_within h place e at = let lt = slice_get_within h (place - 1) e at.1 in omega (arith, lt, at.0)

-- a claim that is live was live before
pub live_less : (ids : List ℕ) (h : List Entry) (e : Entry) (place : ℕ) (claim : Entry) (key : KeyBytes) → LiveAs ids (h ++ e ∷ []) place claim key → place ≤ length h → LiveAs ids h place claim key
live_less ids h e place claim key live le = record {
  at = (live.at.0, slice_get_back h e claim (place - 1) (let one = live.at.0 in omega arith) live.at.1);
  held = λ n from to. subst (λ (g : List Entry). HoldsFor (world ids g) claim key) (take_left h e n to) (live.held n from (rw length-append (omega arith)));
  unended = λ n x at. live.unended n x (slice_get_left h e x n at);
}

-- its session holds its key now
pub live_now : (ids : List ℕ) (h : List Entry) (place : ℕ) (claim : Entry) (key : KeyBytes) → LiveAs ids h place claim key → HoldsFor (world ids h) claim key
live_now ids h place claim key live =
    let all : length h ≤ length h = omega arith in
    subst (λ (g : List Entry). HoldsFor (world ids g) claim key) (take_all (length h) h all) (live.held (length h) (at_within h place claim live.at) all)

-- it stays live where its session still holds its key, and the entry does not end it
pub live_more : (ids : List ℕ) (h : List Entry) (e : Entry) (place : ℕ) (claim : Entry) (key : KeyBytes) → LiveAs ids h place claim key → HoldsFor (world ids (h ++ e ∷ [])) claim key → (Ends e place → ⊥) → LiveAs ids (h ++ e ∷ []) place claim key
live_more ids h e place claim key live now goes = record {
  at = (live.at.0, slice_get_left h e claim (place - 1) live.at.1);
  held = λ n from to.
      elim (eq-or-lt_of_le to) [
        | inl same ↦ (let all : length (h ++ e ∷ []) ≤ n = omega arith in subst (λ (g : List Entry). HoldsFor (world ids g) claim key) (sym (take_all n (h ++ e ∷ []) all)) now)
        | inr less ↦ (let le : n ≤ length h = omega (arith, length-append h (e ∷ [])) in subst (λ (g : List Entry). HoldsFor (world ids g) claim key) (sym (take_left h e n le)) (live.held n from le))
      ];
  unended = λ n x at. elim (either_place h e n x at) [ inl p ↦ live.unended n x p.0 | inr p ↦ λ ends. goes (subst (λ (y : Entry). Ends y place) p.0 ends) ];
}

-- no claim has two keys
key_alone : (w : World) (claim : Entry) (k l : KeyBytes) → HoldsFor w claim k → HoldsFor w claim l → k ≡ l
key_alone w (Call lane line call) k l a b = absurd a
key_alone w Job k l a b = absurd a
key_alone w Task k l a b = absurd a
key_alone w (Tick line moment) k l a b = absurd a
key_alone w (Feed line fragment) k l a b = absurd a
key_alone w (Evict line label) k l a b = absurd a
key_alone w (Claim worker track index session kid) k l a b = some_alone k l (sym a ∙ b)
key_alone w (Deliver place verdict) k l a b = absurd a
key_alone w (GiveUp place) k l a b = absurd a
key_alone w (Publish track index place) k l a b = absurd a
key_alone w (PassClear track index) k l a b = absurd a
key_alone w (WaitForKey track) k l a b = absurd a
key_alone w (Settle line) k l a b = absurd a

-- what is a live claim holds its key only if it is a claim
is_claim : (w : World) (claim : Entry) (key : KeyBytes) → HoldsFor w claim key → IsPlain claim → ⊥
is_claim w (Call lane line call) key a plain = a
is_claim w Job key a plain = a
is_claim w Task key a plain = a
is_claim w (Tick line moment) key a plain = a
is_claim w (Feed line fragment) key a plain = a
is_claim w (Evict line label) key a plain = a
is_claim w (Claim worker track index session kid) key a plain = plain worker track index session kid refl
is_claim w (Deliver place verdict) key a plain = a
is_claim w (GiveUp place) key a plain = a
is_claim w (Publish track index place) key a plain = a
is_claim w (PassClear track index) key a plain = a
is_claim w (WaitForKey track) key a plain = a
is_claim w (Settle line) key a plain = a

-- a live claim of the longer history stands in the shorter one
pub live_before : (ids : List ℕ) (h : List Entry) (e : Entry) (c : ℕ) → IsPlain e → Live ids (h ++ e ∷ []) c → Live ids h c
live_before ids h e c plain live =
    elim (either_place h e (c - 1) live.0 live.2.at.1) [
      | inl p ↦ (live.0, live.1, live_less ids h e c live.0 live.1 live.2 (at_within h c live.0 (live.2.at.0, p.0)))
      | inr p ↦ absurd (is_claim (world ids (h ++ e ∷ [])) live.0 live.1 (live_now ids (h ++ e ∷ []) c live.0 live.1 live.2) (λ w t i s k same. plain w t i s k (same ∙ p.0)))
    ]

-- a live claim at the place of a kept one holds its key
still_holds : (ids : List ℕ) (h : List Entry) (e : Entry) (s : ClaimState) → LiveAs ids h s.place (entry_of s) s.key → Live ids (h ++ e ∷ []) s.place → held_key (world ids (h ++ e ∷ [])).machine s.session s.kid ≡ Some s.key
still_holds ids h e s held live =
    let within = at_within h s.place (entry_of s) held.at in
    let before = live_less ids h e s.place live.0 live.1 live.2 within in
    let same : live.0 ≡ entry_of s = some_alone _ _ (sym before.at.1 ∙ held.at.1) in
    let all : s.place ≤ s.place = omega arith in
    let key : live.1 ≡ s.key = key_alone (world ids (take s.place h)) (entry_of s) live.1 s.key (subst (λ (c : Entry). HoldsFor (world ids (take s.place h)) c live.1) same (before.held s.place all within)) (held.held s.place all within) in
    subst (λ (k : KeyBytes). HoldsFor (world ids (h ++ e ∷ [])) (entry_of s) k) key (subst (λ (c : Entry). HoldsFor (world ids (h ++ e ∷ [])) c live.1) same (live_now ids (h ++ e ∷ []) s.place live.0 live.1 live.2))

-- membership in a filtered list
pub In-filter : {A : Type 0} (p : A → Bool) (xs : List A) (x : A) → In xs x → p x ≡ true → In (filter p xs) x
In-filter p [] x at is = absurd at
In-filter p (y ∷ ys) x (inl e) is = (let here : p y ≡ true = ap p e ∙ is in rw here (inl e))
In-filter p (y ∷ ys) x (inr at) is = go (p y) (In-filter p ys x at is) where
  go : (b : Bool) → In (filter p ys) x → In (if b then y ∷ filter p ys else filter p ys) x
  go true m = inr m
  go false m = m

pub key_is : (held : Option KeyBytes) (key : KeyBytes) → is_key held key ≡ true → held ≡ Some key
key_is None key e = absurd cc
key_is (Some k) key e = ap (λ (bs : List ℕ). let x : KeyBytes = record { bytes = bs } in Some x) ((bytes_eq-Decides k.bytes key.bytes).0 e)

pub is_key_same : (held : Option KeyBytes) (key : KeyBytes) → held ≡ Some key → is_key held key ≡ true
is_key_same held key e = rw e ((bytes_eq-Decides key.bytes key.bytes).1 refl)

-- a claim that waits still waits after an entry that does not spend it
pub open_more : (h : List Entry) (e : Entry) (c : ℕ) → (Spends e c → ⊥) → Undelivered h c → Undelivered (h ++ e ∷ []) c
open_more h e c other u = record {
  worker = u.worker;
  track = u.track;
  index = u.index;
  session = u.session;
  kid = u.kid;
  at = (u.at.0, slice_get_left h e _ (c - 1) u.at.1);
  none = λ n x at. elim (either_place h e n x at) [ inl p ↦ u.none n x p.0 | inr p ↦ λ d. other (subst (λ (y : Entry). Spends y c) p.0 d) ];
}

pub clear_more : (h : List Entry) (e : Entry) (c : ℕ) (o : Option (List ℕ)) → (Spends e c → ⊥) → ClearKept h c o → ClearKept (h ++ e ∷ []) c o
clear_more h e c None other u = open_more h e c other u
clear_more h e c (Some b) other there = Contains-append_left h (e ∷ []) (Deliver c Taken) there

-- an entry that makes and ends no claim, and delivers none of these
pub record LeavesClaims (e : Entry) (claims : List ClaimState) : Type 0 where
  pub plain : IsPlain e
  pub ends : (place : ℕ) → Ends e place → ⊥
  pub spends : (s : ClaimState) → In claims s → Spends e s.place → ⊥

-- after such an entry just the claims stay whose session still holds their key
pub claims_go_on : (ids : List ℕ) (h : List Entry) (e : Entry) (claims : List ClaimState) → LeavesClaims e claims → ClaimsKept ids h claims → ClaimsKept ids (h ++ e ∷ []) (filter (holds_still (world ids (h ++ e ∷ [])).machine) claims)
claims_go_on ids h e claims leaves kept =
    let m = (world ids (h ++ e ∷ [])).machine in
    record {
      live = λ s there. (let was = In_filter (holds_still m) claims s there in live_more ids h e s.place (entry_of s) s.key (kept.live s was.0) (key_is (held_key m s.session s.kid) s.key was.1) (leaves.ends s.place));
      all = λ place live.
          (let found = kept.all place (live_before ids h e place leaves.plain live) in
          let here : Live ids (h ++ e ∷ []) found.0.place = subst (λ (p : ℕ). Live ids (h ++ e ∷ []) p) (sym found.2) live in
          (found.0, In-filter (holds_still m) claims found.0 found.1 (is_key_same (held_key m found.0.session found.0.kid) found.0.key (still_holds ids h e found.0 (kept.live found.0 found.1) here)), found.2));
      clear = λ s there. (let was = (In_filter (holds_still m) claims s there).0 in clear_more h e s.place s.clear (leaves.spends s was) (kept.clear s was));
      once = once_filter (holds_still m) claims kept.once;
    }

all_held : (m : Machine) (claims : List ClaimState) → ((s : ClaimState) → In claims s → held_key m s.session s.kid ≡ Some s.key) → filter (holds_still m) claims ≡ claims
all_held m [] held = refl
all_held m (s ∷ ss) held = (let here : holds_still m s ≡ true = is_key_same (held_key m s.session s.kid) s.key (held s (inl refl)) in rw here (ap (λ ys. s ∷ ys) (all_held m ss (λ t at. held t (inr at)))))

-- the same keys are usable
pub record SameKeys (m k : Machine) : Type 0 where
  pub sessions : k.sessions ≡ m.sessions
  pub moment : k.moment ≡ m.moment

pub same_held : (m k : Machine) (session : ℕ) (kid : List ℕ) → SameKeys m k → held_key k session kid ≡ held_key m session kid
same_held m k session kid same = rw (same.sessions, same.moment) refl

-- where the same keys are usable, all claims stay
pub claims_stay : (ids : List ℕ) (h : List Entry) (e : Entry) (claims : List ClaimState) → LeavesClaims e claims → SameKeys (world ids h).machine (world ids (h ++ e ∷ [])).machine → ClaimsKept ids h claims → ClaimsKept ids (h ++ e ∷ []) claims
claims_stay ids h e claims leaves same kept =
    let m = (world ids (h ++ e ∷ [])).machine in
    let all : filter (holds_still m) claims ≡ claims = all_held m claims (λ s at. same_held (world ids h).machine m s.session s.kid same ∙ live_now ids h s.place (entry_of s) s.key (kept.live s at)) in
    subst (λ (cs : List ClaimState). ClaimsKept ids (h ++ e ∷ []) cs) all (claims_go_on ids h e claims leaves kept)

-- an entry that ends just the claim at a place
pub record EndsOne (e : Entry) (place : ℕ) : Type 0 where
  pub plain : IsPlain e
  pub this : Ends e place
  pub ends : (p : ℕ) → Ends e p → place ≡ p
  pub spends : (p : ℕ) → Spends e p → place ≡ p

is_other_true : (place : ℕ) (s : ClaimState) → is_other place s ≡ true → place ≡ s.place → ⊥
is_other_true place s is same = elim (eqb_tells s.place place) [ inl p ↦ (let z : is_other place s ≡ false = ap not p.0 in absurd (cc)) | inr p ↦ p.1 (sym same) ]

is_other_yes : (place : ℕ) (s : ClaimState) → (s.place ≡ place → ⊥) → is_other place s ≡ true
is_other_yes place s ne = elim (eqb_tells s.place place) [ inl p ↦ absurd (ne p.1) | inr p ↦ ap not p.0 ]

pub claims_end : (ids : List ℕ) (h : List Entry) (e : Entry) (place : ℕ) (claims : List ClaimState) → EndsOne e place → SameKeys (world ids h).machine (world ids (h ++ e ∷ [])).machine → ClaimsKept ids h claims → ClaimsKept ids (h ++ e ∷ []) (filter (is_other place) claims)
claims_end ids h e place claims ends same kept =
    let m = (world ids (h ++ e ∷ [])).machine in
    record {
      live = λ s there. (let was = In_filter (is_other place) claims s there in live_more ids h e s.place (entry_of s) s.key (kept.live s was.0) (same_held (world ids h).machine m s.session s.kid same ∙ live_now ids h s.place (entry_of s) s.key (kept.live s was.0)) (λ x. is_other_true place s was.1 (ends.ends s.place x)));
      all = λ p live.
          (let found = kept.all p (live_before ids h e p ends.plain live) in
          (found.0, In-filter (is_other place) claims found.0 found.1 (is_other_yes place found.0 (λ here. live.2.unended (length h) e (slice_get_last h e) (subst (λ (q : ℕ). Ends e q) (sym here ∙ found.2) ends.this))), found.2));
      clear = λ s there. (let was = In_filter (is_other place) claims s there in clear_more h e s.place s.clear (λ x. is_other_true place s was.1 (ends.spends s.place x)) (kept.clear s was.0));
      once = once_filter (is_other place) claims kept.once;
    }
