-- Which slots hold a claim that is not ended.
use Rattle.std.specs.Prelude.{ℕ, ◌+◌, slice_set, ◌≡◌, ◌<◌, Bool, true, false, not, ◌==◌, ◌&&◌, if◌then◌else◌, List, [], ◌∷◌, length, slice_get, slice_index_or, Option, Some, None, is_some}
use Rattle.std.specs.Str.{bytes_eq}
use Rattle.key_claims.specs.declared.slots.Generation.{Generation}
use Rattle.key_claims.specs.declared.slots.Slot.{Slot}
use Rattle.key_claims.specs.TracksState.{ClaimState}
use Rattle.key_claims.specs.Claims.{has_place, give_clear, clear_at}

-- the session's key under the id
abbrev pub is_of : ℕ → List ℕ → Generation → Bool
is_of session kid g = g.session == session && bytes_eq g.kid kid

-- the list has no key of the session under the id
abbrev pub NoneOf : List Generation → ℕ → List ℕ → Type 0
NoneOf [] session kid = Unit {0}
NoneOf (g ∷ gs) session kid = (is_of session kid g ≡ false) × NoneOf gs session kid

-- the place of a key of the session under the id, or that there is none
abbrev pub KeyPlace : List Generation → ℕ → List ℕ → Option ℕ → Type 0
KeyPlace gs session kid None = NoneOf gs session kid
KeyPlace gs session kid (Some i) = (i < length gs) × ((d : Generation) → is_of session kid (slice_index_or gs i d) ≡ true)

-- the key is there and of the generation
abbrev pub current_in : Option Generation → ℕ → Bool
current_in None generation = false
current_in (Some g) generation = g.number == generation

-- the slot's key is still of its generation
abbrev pub is_current : List Generation → Slot → Bool
is_current gs s = current_in (slice_get gs s.key_at) s.generation

-- the claim of a slot under its key
abbrev pub claim_with : Generation → Slot → ClaimState
claim_with g s = record { place = s.place; worker = s.worker; track = s.track; index = s.index; session = g.session; kid = g.kid; key = s.key; clear = s.clear }

-- the claim of a slot, if its key is there and of its generation
abbrev pub claim_in : Option Generation → Slot → Option ClaimState
claim_in None s = None
claim_in (Some g) s = if g.number == s.generation then Some (claim_with g s) else None

-- the claim of a slot, if it is not ended
abbrev pub slot_claim : List Generation → Slot → Option ClaimState
slot_claim gs s = claim_in (slice_get gs s.key_at) s

-- the list with the claim before it, if there is one
abbrev pub add_some : Option ClaimState → List ClaimState → List ClaimState
add_some None cs = cs
add_some (Some c) cs = c ∷ cs

-- the claims whose key is still of their generation
abbrev pub claims_in : List Generation → List Slot → List ClaimState
claims_in gs [] = []
claims_in gs (s ∷ ss) = add_some (slot_claim gs s) (claims_in gs ss)

-- the slot, put behind the last generation of the key at the place
abbrev pub generation_ended : ℕ → Slot → ℕ
generation_ended i s = if s.key_at == i then 0 else s.generation

-- the slot, ended where its key stands at the place
abbrev pub ended : ℕ → Slot → Slot
ended i s = record s { generation = generation_ended i s }

-- the key's next generation
abbrev pub bumped : Generation → Generation
bumped g = record g { number = g.number + 1 }

-- the key at the place is of its next generation, or has no further one
abbrev pub Bumps : List Generation → ℕ → Bool → List Generation → Type 0
Bumps gs i true new = (g : Generation) × (slice_get gs i ≡ Some g) × (new ≡ slice_set gs i (bumped g))
Bumps gs i false new = (g : Generation) × (slice_get gs i ≡ Some g) × (0 < g.number) × (new ≡ gs)

-- the slot holds a claim that is not ended, given at the place
abbrev pub is_at : List Generation → ℕ → Slot → Bool
is_at gs place s = s.place == place && is_current gs s

-- the slot holds a claim that is not ended, on the sample
abbrev pub is_current_on : List Generation → ℕ → ℕ → Slot → Bool
is_current_on gs track index s = (s.track == track && s.index == index) && is_current gs s

-- and its clear bytes are there
abbrev pub is_given_on : List Generation → ℕ → ℕ → Slot → Bool
is_given_on gs track index s = is_current_on gs track index s && is_some s.clear

-- the slot is not of the place
abbrev pub is_other_slot : ℕ → Slot → Bool
is_other_slot place s = not (s.place == place)

-- no slot holds a claim that is not ended, given at the place
abbrev pub NoneAt : List Generation → List Slot → ℕ → Type 0
NoneAt gs [] place = Unit {0}
NoneAt gs (s ∷ ss) place = (is_at gs place s ≡ false) × NoneAt gs ss place

-- the slot with its clear bytes
abbrev pub with_clear : List ℕ → Slot → Slot
with_clear clear s = record s { clear = Some clear }

-- the slot of the claim at the place: what it gives, and what it is with its clear bytes
pub record IsSlotOf (gs : List Generation) (ss : List Slot) (place i : ℕ) : Type 0 where
  pub within : i < length ss
  pub there : has_place place (claims_in gs ss) ≡ true
  pub place_ : (d : Slot) → (slice_index_or ss i d).place ≡ place
  pub clear_ : (d : Slot) → clear_at place (claims_in gs ss) ≡ (slice_index_or ss i d).clear
  pub given : (clear : List ℕ) (d : Slot) → claims_in gs (slice_set ss i (with_clear clear (slice_index_or ss i d))) ≡ give_clear place clear (claims_in gs ss)

-- the slot of the claim at the place, or that no claim has it
abbrev pub SlotFound : List Generation → List Slot → ℕ → Option ℕ → Type 0
SlotFound gs ss place None = has_place place (claims_in gs ss) ≡ false
SlotFound gs ss place (Some i) = IsSlotOf gs ss place i
