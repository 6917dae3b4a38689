-- What ties slots to generations.
use Rattle.std.specs.Prelude.{ℕ, ◌≤◌, List, [], ◌∷◌, slice_get, Option, Some, None}
use Rattle.key_claims.specs.declared.slots.Generation.{Generation}
use Rattle.key_claims.specs.declared.slots.Slot.{Slot}
use Rattle.key_claims.specs.declared.claims.Claims.TheInside.{Inside}
use Rattle.key_claims.specs.TracksState.{ClaimState}
use Rattle.key_claims.specs.Slots.{NoneOf, claims_in}

-- the slot's key is known, and no generation of it is still to come
abbrev pub SlotBehind : Option Generation → ℕ → Type 0
SlotBehind None generation = ⊥
SlotBehind (Some g) generation = generation ≤ g.number

-- each slot's key is there, and of the slot's generation or a later one
abbrev pub AllBehind : List Generation → List Slot → Type 0
AllBehind gs [] = Unit {0}
AllBehind gs (s ∷ ss) = SlotBehind (slice_get gs s.key_at) s.generation × AllBehind gs ss

-- each session's key stands once
abbrev pub AllOnce : List Generation → Type 0
AllOnce [] = Unit {0}
AllOnce (g ∷ gs) = NoneOf gs g.session g.kid × AllOnce gs

-- no key of a session stands twice, and each slot is behind its key
pub record SlotsKept (gs : List Generation) (ss : List Slot) : Type 0 where
  pub once : AllOnce gs
  pub behind : AllBehind gs ss

-- the claims that are not ended
abbrev pub claims_of : Inside → List ClaimState
claims_of c = claims_in c.generations.items c.slots.items

-- what the claims keep
abbrev pub AreKept : Inside → Type 0
AreKept c = SlotsKept c.generations.items c.slots.items
