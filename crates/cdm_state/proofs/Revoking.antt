-- Where the keys that a step ended are revoked, just the claims stay whose session still holds their key.
use Rattle.std.proofs.Common.{◌≡◌, ℕ, ◌+◌, ◌<◌, inl, inr, Bool, true, false, ◌&&◌, not, List, [], ◌∷◌, ◌++◌, length, Option, Some, refl, ap, sym, subst, ◌∙◌, arith}
use Rattle.std.specs.Prelude.{if◌then◌else◌, filter}
use Rattle.std.proofs.lemmas.Bool.Decides.{eqb_tells}
use Rattle.std.proofs.lemmas.Slice.Eq.{bytes_eq-Decides}
use Rattle.eme_types.specs.declared.kid.KeyBytes.{KeyBytes}
use Rattle.cdm_world.specs.In.{In}
use Rattle.cdm_world.specs.Lost.{AreLost}
use Rattle.key_claims.specs.Claims.{is_under, is_other, revoked, revoke_all}
use Rattle.key_claims.specs.Contract.{AreBelow}
use Rattle.eme_types.specs.declared.call.Effect.{Effect}
use Rattle.eme_types.specs.declared.entry.Entry.{Entry}
use Rattle.key_sessions.specs.Machine.{Machine}
use Rattle.key_sessions.specs.Steps.{Done}
use Rattle.key_sessions.specs.Keys.{held_key}
use Rattle.key_sessions.specs.World.{World}
use Rattle.key_claims.specs.TracksState.{ClaimState, FedTrack}
use Rattle.cdm_state.specs.Claims.{LegalKept}
use Rattle.cdm_state.specs.Kept.{world_of}
use Rattle.cdm_state.specs.Slots.{is_key, entry_of, holds_still}
use Rattle.cdm_state.proofs.TrackLists.{same_yes, not_same}
use Rattle.cdm_state.proofs.Live.{key_is, is_key_same, live_now, at_within}
use Rattle.cdm_state.proofs.Plain.{some_alone}

-- the claim is under none of these keys
abbrev outlives : List (ℕ × List ℕ) → ClaimState → Bool
outlives [] c = true
outlives (l ∷ ls) c = not (is_under l.0 l.1 c) && outlives ls c

filter_both : (f g : ClaimState → Bool) (cs : List ClaimState) → filter g (filter f cs) ≡ filter (λ c. f c && g c) cs
filter_both f g [] = refl
filter_both f g (c ∷ cs) = go (f c) (filter_both f g cs) where
  go : (b : Bool) → filter g (filter f cs) ≡ filter (λ x. f x && g x) cs → filter g (if b then c ∷ filter f cs else filter f cs) ≡ (if (b && g c) then c ∷ filter (λ x. f x && g x) cs else filter (λ x. f x && g x) cs)
  go false rest = rest
  go true rest = inner (g c) where
    inner : (b : Bool) → (if b then c ∷ filter g (filter f cs) else filter g (filter f cs)) ≡ (if b then c ∷ filter (λ x. f x && g x) cs else filter (λ x. f x && g x) cs)
    inner true = ap (λ (ys : List ClaimState). c ∷ ys) rest
    inner false = rest

filter_true : (cs : List ClaimState) → filter (λ c. true) cs ≡ cs
filter_true [] = refl
filter_true (c ∷ cs) = ap (λ (ys : List ClaimState). c ∷ ys) (filter_true cs)

revoked_all : (ls : List (ℕ × List ℕ)) (cs : List ClaimState) → revoke_all ls cs ≡ filter (outlives ls) cs
revoked_all [] cs = sym (filter_true cs)
revoked_all (l ∷ ls) cs = revoked_all ls (revoked l.0 l.1 cs) ∙ filter_both (λ c. not (is_under l.0 l.1 c)) (outlives ls) cs

filter_as : (f g : ClaimState → Bool) (cs : List ClaimState) → ((c : ClaimState) → In cs c → f c ≡ g c) → filter f cs ≡ filter g cs
filter_as f g [] same = refl
filter_as f g (c ∷ cs) same = (let e = same c (inl refl) in rw e (go (g c) (filter_as f g cs (λ d there. same d (inr there))))) where
  go : (b : Bool) → filter f cs ≡ filter g cs → (if b then c ∷ filter f cs else filter f cs) ≡ (if b then c ∷ filter g cs else filter g cs)
  go true rest = ap (λ (ys : List ClaimState). c ∷ ys) rest
  go false rest = rest

record Under (l : ℕ × List ℕ) (c : ClaimState) : Type 0 where
  session_is : c.session ≡ l.0
  kid_is : c.kid ≡ l.1

under_is : (l : ℕ × List ℕ) (c : ClaimState) → is_under l.0 l.1 c ≡ true → Under l c
under_is l c is = elim (eqb_tells c.session l.0) [
  | inl p ↦ record { session_is = p.1; kid_is = (bytes_eq-Decides c.kid l.1).0 (rw p.0 at is) }
  | inr p ↦ absurd (let none : false ≡ true = rw p.0 at is in cc)
]

under_itself : (c : ClaimState) → is_under c.session c.kid c ≡ true
under_itself c = (let a = same_yes c.session c.session refl in let b = (bytes_eq-Decides c.kid c.kid).1 refl in rw (a, b) refl)

outlives_all : (ls : List (ℕ × List ℕ)) (c : ClaimState) → ((l : ℕ × List ℕ) → In ls l → Under l c → ⊥) → outlives ls c ≡ true
outlives_all [] c other = refl
outlives_all (l ∷ ls) c other = go (is_under l.0 l.1 c) refl (outlives_all ls c (λ k there u. other k (inr there) u)) where
  go : (b : Bool) → is_under l.0 l.1 c ≡ b → outlives ls c ≡ true → (not b && outlives ls c) ≡ true
  go true is rest = absurd (other l (inl refl) (under_is l c is))
  go false is rest = rest

outlives_not : (ls : List (ℕ × List ℕ)) (c : ClaimState) → In ls (c.session, c.kid) → outlives ls c ≡ false
outlives_not [] c there = absurd there
outlives_not (l ∷ ls) c (inl e) = rw e (let is = under_itself c in rw is refl)
outlives_not (l ∷ ls) c (inr m) = (let none = outlives_not ls c m in rw none (and_false (not (is_under l.0 l.1 c)))) where
  and_false : (b : Bool) → (b && false) ≡ false
  and_false true = refl
  and_false false = refl

not_key : (held : Option KeyBytes) (key : KeyBytes) → (held ≡ Some key → ⊥) → is_key held key ≡ false
not_key held key ne = go (is_key held key) refl where
  go : (b : Bool) → is_key held key ≡ b → b ≡ false
  go true e = absurd (ne (key_is held key e))
  go false e = refl

-- of claims whose sessions held their keys before the step
pub lost_revoked : (old new : ℕ → List ℕ → Option KeyBytes) (ls : List (ℕ × List ℕ)) (cs : List ClaimState) → AreLost old new ls → ((c : ClaimState) → In cs c → old c.session c.kid ≡ Some c.key) → revoke_all ls cs ≡ filter (λ c. is_key (new c.session c.kid) c.key) cs
lost_revoked old new ls cs lost held = revoked_all ls cs ∙ filter_as (outlives ls) (λ c. is_key (new c.session c.kid) c.key) cs (λ c there. one c (held c there)) where
  ended : (c : ClaimState) (l : ℕ × List ℕ) → old c.session c.kid ≡ Some c.key → In ls l → Under l c → new c.session c.kid ≡ Some c.key → ⊥
  ended c l had there u still =
      let e = lost.each l there in
      let was : old l.0 l.1 ≡ Some c.key = subst (λ (k : List ℕ). old l.0 k ≡ Some c.key) u.kid_is (subst (λ (s : ℕ). old s c.kid ≡ Some c.key) u.session_is had) in
      let is : new l.0 l.1 ≡ Some c.key = subst (λ (k : List ℕ). new l.0 k ≡ Some c.key) u.kid_is (subst (λ (s : ℕ). new s c.kid ≡ Some c.key) u.session_is still) in
      let same : c.key ≡ e.0 = some_alone _ _ (sym was ∙ e.1.0) in
      e.1.1 (is ∙ ap (λ (k : KeyBytes). Some k) same)

  one : (c : ClaimState) → old c.session c.kid ≡ Some c.key → outlives ls c ≡ is_key (new c.session c.kid) c.key
  one c had = elim (lost.all c.session c.kid c.key had) [
    | inl still ↦ outlives_all ls c (λ l there u. ended c l had there u still) ∙ sym (is_key_same (new c.session c.kid) c.key still)
    | inr there ↦ outlives_not ls c there ∙ sym (not_key (new c.session c.kid) c.key (λ still. ended c (c.session, c.kid) had there (record { session_is = refl; kid_is = refl }) still))
  ]

pub revoke_more : (ls : List (ℕ × List ℕ)) (l : ℕ × List ℕ) (cs : List ClaimState) → revoke_all (ls ++ l ∷ []) cs ≡ revoked l.0 l.1 (revoke_all ls cs)
revoke_more [] l cs = refl
revoke_more (k ∷ ls) l cs = revoke_more ls l (revoked k.0 k.1 cs)

-- a claim that was just given is taken back
pub taken_back : (cs : List ClaimState) (c : ClaimState) → AreBelow c.place cs → filter (is_other c.place) (cs ++ c ∷ []) ≡ cs
taken_back [] c below = (let e = same_yes c.place c.place refl in rw e refl)
taken_back (x ∷ cs) c below = (let e = not_same x.place c.place (λ same. omega (arith, below.0, same)) in rw e (ap (λ (ys : List ClaimState). x ∷ ys) (taken_back cs c below.1)))

pub all_below : (n : ℕ) (cs : List ClaimState) → ((c : ClaimState) → In cs c → c.place < n) → AreBelow n cs
all_below n [] below = tt
all_below n (c ∷ cs) below = (below c (inl refl), all_below n cs (λ d there. below d (inr there)))

-- the claims after a step of the sessions
pub claims_left : (ids : List ℕ) (h : List Entry) (did : List (List Effect)) (m n : Machine) (d : Done) (ts : List FedTrack) (claims new : List ClaimState) (ls : List (ℕ × List ℕ)) → LegalKept ids h did (world_of m ts) claims → n ≡ d.machine → AreLost (held_key m) (held_key d.machine) ls → new ≡ revoke_all ls claims → new ≡ filter (holds_still n) claims
claims_left ids h did m n d ts claims new ls kept is lost left =
    left ∙ (lost_revoked (held_key m) (held_key d.machine) ls claims lost (λ c there. subst (λ (w : World). held_key w.machine c.session c.kid ≡ Some c.key) (sym kept.state) (live_now ids h c.place (entry_of c) c.key (kept.claims.live c there))) ∙ ap (λ (k : Machine). filter (holds_still k) claims) (sym is))

-- the place of the next entry is above those of all claims
pub next_above : (ids : List ℕ) (h : List Entry) (did : List (List Effect)) (w : World) (claims : List ClaimState) → LegalKept ids h did w claims → AreBelow (length h + 1) claims
next_above ids h did w claims kept = all_below (length h + 1) claims (λ c there. (let before = at_within h c.place (entry_of c) (kept.claims.live c there).at in omega (arith, before)))
