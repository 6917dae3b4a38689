-- Claims that can be published.
use Rattle.std.proofs.Common.{◌≡◌, ◌<◌, ◌∙◌, ℕ, Bool, true, false, List, [], ◌∷◌, length, Option, Some, None, refl, ap, sym, inl, inr, arith, eqb}
use Rattle.std.specs.Prelude.{if◌then◌else◌, ◌&&◌, is_some, is_none, nat_lt, MatchOption}
use Rattle.cdm_world.specs.In.{In}
use Rattle.eme_types.specs.declared.sample.EncSample.{EncSample}
use Rattle.eme_types.specs.declared.sample.Protect.{Protect}
use Rattle.std.proofs.lemmas.Bool.{lt-ltb, and_parts, eqb-true}
use Rattle.std.proofs.lemmas.Option.{slice_get_within, same_Some}
use Rattle.cdm_world.specs.Tracks.{head}
use Rattle.key_claims.specs.TracksState.{ClaimState, FedTrack, track_of}
use Rattle.key_claims.specs.Claims.{is_ready, ready_claim, clear_at}
use Rattle.key_claims.specs.Choice.{ready_on, is_clear, has_clear_head}
use Rattle.key_claims.specs.Kept.{Once}
use Rattle.key_claims.proofs.Lists.{same_yes, not_same}

lt_test : (a b : ℕ) → nat_lt a b ≡ true → a < b
lt_test a b e = search (arith, e)

ready_case : (b : Bool) (o : Option ℕ) (p : ℕ) → (if b then o else None) ≡ Some p → (b ≡ true) × (o ≡ Some p)
ready_case true o p e = (refl, e)
ready_case false o p e = absurd cc

-- the head of a track with a claim that is ready is fed
pub ready_fed : (claims : List ClaimState) (t : FedTrack) (place : ℕ) → ready_on claims t ≡ Some place → length t.outputs < length t.fed
ready_fed claims t place e = lt_test (length t.outputs) (length t.fed) (ready_case (nat_lt (length t.outputs) (length t.fed)) (ready_claim claims t.id (length t.outputs)) place e).0

-- the claim of the place that is ready
pub record ReadyAt (claims : List ClaimState) (track index place : ℕ) : Type 0 where
  pub claim : ClaimState
  pub there : In claims claim
  pub place_ : claim.place ≡ place
  pub ready : is_ready track index claim ≡ true

pub ready_there : (claims : List ClaimState) (track index place : ℕ) → ready_claim claims track index ≡ Some place → ReadyAt claims track index place
ready_there [] track index place e = absurd cc
ready_there (c ∷ cs) track index place e = go (λ f. ready_there cs track index place f) (is_ready track index c) refl e where
  go : (ready_claim cs track index ≡ Some place → ReadyAt cs track index place) → (b : Bool) → is_ready track index c ≡ b → (if b then Some c.place else ready_claim cs track index) ≡ Some place → ReadyAt (c ∷ cs) track index place
  go again true is e = record { claim = c; there = inl refl; place_ = same_Some c.place place e; ready = is }
  go again false is e = (let r = again e in record { claim = r.claim; there = inr r.there; place_ = r.place_; ready = r.ready })

pub clear_of : (claims : List ClaimState) (c : ClaimState) → Once claims → In claims c → clear_at c.place claims ≡ c.clear
clear_of [] c once there = absurd there
clear_of (x ∷ cs) c once (inl e) = rw (← e) (let same = same_yes x.place x.place refl in rw same refl)
clear_of (x ∷ cs) c once (inr m) = (let other = not_same x.place c.place (once.0 c m) in rw other (clear_of cs c once.1 m))

some_clear : (o : Option (List ℕ)) → is_some o ≡ true → (b : List ℕ) × (o ≡ Some b)
some_clear None e = absurd cc
some_clear (Some b) e = (b, refl)

pub ready_clear : (claims : List ClaimState) (t : FedTrack) (place : ℕ) → Once claims → ready_on claims t ≡ Some place → (clear : List ℕ) × (clear_at place claims ≡ Some clear)
ready_clear claims t place once e =
    let r = ready_there claims t.id (length t.outputs) place (ready_case (nat_lt (length t.outputs) (length t.fed)) (ready_claim claims t.id (length t.outputs)) place e).1 in
    let b = some_clear r.claim.clear (and_parts _ (is_some r.claim.clear) r.ready).1 in
    (b.0, ap (λ p. clear_at p claims) (sym r.place_) ∙ (clear_of claims r.claim once r.there ∙ b.1))

pub put_clear : (o : Option (List ℕ)) (clear : List ℕ) (P : Type 0) (Q : List ℕ → Type 0) → o ≡ Some clear → MatchOption o P Q → Q clear
put_clear o clear P Q is m = rw is at m

clear_some : (o : Option EncSample) → is_clear o ≡ true → (s : EncSample) × (o ≡ Some s)
clear_some None e = absurd cc
clear_some (Some s) e = (s, refl)

pub clear_head : (t : FedTrack) → has_clear_head t ≡ true → (s : EncSample) × (head (track_of t) ≡ Some s)
clear_head t e = clear_some (head (track_of t)) e

pub head_fed : (t : FedTrack) (x : EncSample) → head (track_of t) ≡ Some x → length t.outputs < length t.fed
head_fed t x e = slice_get_within t.fed (length t.outputs) x e

pub ready_claimed : (claims : List ClaimState) (t : FedTrack) (place : ℕ) → ready_on claims t ≡ Some place → ready_claim claims t.id (length t.outputs) ≡ Some place
ready_claimed claims t place e = (ready_case (nat_lt (length t.outputs) (length t.fed)) (ready_claim claims t.id (length t.outputs)) place e).1

first_ready : (claims : List ClaimState) (track index : ℕ) (c : ClaimState) → In claims c → is_ready track index c ≡ true → (place : ℕ) × (ready_claim claims track index ≡ Some place)
first_ready [] track index c there is = absurd there
first_ready (x ∷ cs) track index c there is = go (is_ready track index x) refl there (λ m. first_ready cs track index c m is) where
  go : (b : Bool) → is_ready track index x ≡ b → In (x ∷ cs) c → (In cs c → (place : ℕ) × (ready_claim cs track index ≡ Some place)) → (place : ℕ) × ((if b then Some x.place else ready_claim cs track index) ≡ Some place)
  go true e m again = (x.place, refl)
  go false e (inl same) again = absurd (let z : is_ready track index c ≡ false = rw (← same) e in let y : true ≡ false = sym is ∙ z in cc)
  go false e (inr m) again = again m

-- a track whose head has a claim that is ready
pub ready_some : (claims : List ClaimState) (t : FedTrack) (c : ClaimState) → length t.outputs < length t.fed → In claims c → is_ready t.id (length t.outputs) c ≡ true → (place : ℕ) × (ready_on claims t ≡ Some place)
ready_some claims t c fed there is = (let r = first_ready claims t.id (length t.outputs) c there is in let lt = lt-ltb (length t.outputs) (length t.fed) fed in (r.0, rw lt r.1))

-- the sample that a claim that is ready is on
pub ready_on_sample : (track index : ℕ) (c : ClaimState) → is_ready track index c ≡ true → (c.track ≡ track) × (c.index ≡ index)
ready_on_sample track index c e =
    let a = and_parts (eqb c.track track && eqb c.index index) (is_some c.clear) e in
    let b = and_parts (eqb c.track track) (eqb c.index index) a.0 in
    (eqb-true c.track track b.0, eqb-true c.index index b.1)

none_protect : (p : Option Protect) → is_none p ≡ true → p ≡ None
none_protect None e = refl
none_protect (Some p) e = absurd cc

-- a clear head is unprotected
pub clear_protect : (t : FedTrack) (x : EncSample) → head (track_of t) ≡ Some x → has_clear_head t ≡ true → x.protect ≡ None
clear_protect t x at e = none_protect x.protect (ap is_clear (sym at) ∙ e)
