-- Lists of claims that are not ended.
use Rattle.std.specs.Prelude.{ℕ, ◌≡◌, ◌==◌, ◌&&◌, ◌||◌, not, Bool, true, false, if◌then◌else◌, List, [], ◌∷◌, Option, Some, None, is_some}
use Rattle.std.specs.List.{filter}
use Rattle.std.specs.Str.{bytes_eq}
use Rattle.key_claims.specs.TracksState.{ClaimState}

-- the claim is under this session's key
abbrev pub is_under : ℕ → List ℕ → ClaimState → Bool
is_under session kid c = c.session == session && bytes_eq c.kid kid

-- the claims under that key are ended
abbrev pub revoked : ℕ → List ℕ → List ClaimState → List ClaimState
revoked session kid claims = filter (λ c. not (is_under session kid c)) claims

-- the claims under each of these keys are ended
abbrev pub revoke_all : List (ℕ × List ℕ) → List ClaimState → List ClaimState
revoke_all [] claims = claims
revoke_all (l ∷ more) claims = revoke_all more (revoked l.0 l.1 claims)

-- the claim is not the one at the place
abbrev pub is_other : ℕ → ClaimState → Bool
is_other place c = not (c.place == place)

-- a claim is on the sample
abbrev pub claimed_in : List ClaimState → ℕ → ℕ → Bool
claimed_in [] track index = false
claimed_in (c ∷ more) track index = (c.track == track && c.index == index) || claimed_in more track index

-- a claim has the place
abbrev pub has_place : ℕ → List ClaimState → Bool
has_place place [] = false
has_place place (c ∷ more) = (c.place == place) || has_place place more

-- the claim at the place gets its clear bytes
abbrev pub give_clear : ℕ → List ℕ → List ClaimState → List ClaimState
give_clear place clear [] = []
give_clear place clear (c ∷ more) = if c.place == place then record c { clear = Some clear } ∷ more else c ∷ give_clear place clear more

-- the clear bytes of the claim at the place
abbrev pub clear_at : ℕ → List ClaimState → Option (List ℕ)
clear_at place [] = None
clear_at place (c ∷ more) = if c.place == place then c.clear else clear_at place more

-- the claim is on the sample, and its clear bytes are there
abbrev pub is_ready : ℕ → ℕ → ClaimState → Bool
is_ready track index c = (c.track == track && c.index == index) && is_some c.clear

-- the place of the first such claim
abbrev pub ready_claim : List ClaimState → ℕ → ℕ → Option ℕ
ready_claim [] track index = None
ready_claim (c ∷ more) track index = if is_ready track index c then Some c.place else ready_claim more track index

-- what a delivery hands back and leaves: a claim at the place gets the bytes, or there is none
abbrev pub DeliversTo : List ClaimState → ℕ → List ℕ → Option (List ℕ) → List ClaimState → Type 0
DeliversTo old place clear None new = (has_place place old ≡ true) × (new ≡ give_clear place clear old)
DeliversTo old place clear (Some back) new = (has_place place old ≡ false) × (new ≡ old) × (back ≡ clear)
