-- A new claim, and the place of its key.
use Rattle.std.specs.Prelude.{ℕ, zero, suc, ◌≡◌, ◌<◌, ◌≤◌, ◌==◌, ◌||◌, Bool, true, false, List, [], ◌∷◌, length, Option, Some, None}
use Rattle.key_claims.specs.declared.slots.Generation.{Generation}
use Rattle.key_claims.specs.declared.slots.Held.{Held}
use Rattle.key_claims.specs.declared.slots.Slot.{Slot}
use Rattle.key_claims.specs.TracksState.{ClaimState}

-- the slot of a claim under the key at a place of the list, of a generation
abbrev pub slot_of : Held → ℕ → ℕ → Slot
slot_of h key_at generation = record { place = h.place; worker = h.worker; track = h.track; index = h.index; key_at = key_at; generation = generation; key = h.key; clear = None }

-- a claim as contracts see it, without clear bytes
abbrev pub claim_of : Held → ℕ → List ℕ → ClaimState
claim_of h session kid = record { place = h.place; worker = h.worker; track = h.track; index = h.index; session = session; kid = kid; key = h.key; clear = None }

-- a slot has its key at the place
abbrev pub is_held : List Slot → ℕ → Bool
is_held [] place = false
is_held (s ∷ ss) place = s.key_at == place || is_held ss place

-- the first place below the count that is not held, or every one is held
abbrev pub FreePlace : List Slot → ℕ → Option ℕ → Type 0
FreePlace ss count None = (i : ℕ) → i < count → is_held ss i ≡ true
FreePlace ss count (Some place) = (place < count) × (is_held ss place ≡ false) × ((i : ℕ) → i < place → is_held ss i ≡ true)

-- the key is put at the place, in the stead of the one that was there, or at the end
abbrev pub put_at : List Generation → ℕ → Generation → List Generation
put_at [] place g = g ∷ []
put_at (x ∷ gs) zero g = g ∷ gs
put_at (x ∷ gs) (suc place) g = x ∷ put_at gs place g

-- a new key is put at the first place that is not held; the list grows only where every place is held
pub record IsPut (old : List Generation) (ss : List Slot) (g : Generation) (place : ℕ) (new : List Generation) : Type 0 where
  pub free : place < length old → is_held ss place ≡ false
  pub before : (i : ℕ) → i < place → is_held ss i ≡ true
  pub within : place ≤ length old
  pub new_ : new ≡ put_at old place g
