-- A table keeps each id once.
use Rattle.std.proofs.Common.{◌≡◌, ◌⊎◌, ℕ, Bool, true, false, bytes_eq, List, [], ◌∷◌, map, if◌then◌else◌, Some, inl, inr, refl, ap}
use Rattle.std.proofs.lemmas.Slice.Eq.{bytes_eq-Decides}
use Rattle.std.proofs.lemmas.Bool.Decides.{not_from_Decides}
use Rattle.eme_types.specs.declared.kid.KeyBytes.{KeyBytes}
use Rattle.key_statuses.specs.declared.table.KnownKey.{KnownKey}
use Rattle.cdm_world.specs.In.{In}
use Rattle.key_statuses.specs.Table.{ids, KnowsEachOnce, grant_in, released}

-- an id of a granted table is one of the table's, or the granted one
granted_in : (table : List KnownKey) (kid : List ℕ) (key : KeyBytes) (id : List ℕ) → In (ids (grant_in table kid key)) id → In (ids table) id ⊎ (kid ≡ id)
granted_in [] kid key id (inl e) = inr e
granted_in [] kid key id (inr h) = absurd h
granted_in (k ∷ ks) kid key id h = go (granted_in ks kid key id) (bytes_eq k.kid kid) h where
  go : (In (ids (grant_in ks kid key)) id → In (ids ks) id ⊎ (kid ≡ id)) → (b : Bool) → In (ids (if b then record k { key = Some key } ∷ ks else k ∷ grant_in ks kid key)) id → In (ids (k ∷ ks)) id ⊎ (kid ≡ id)
  go rest true h = inl h
  go rest false (inl e) = inl (inl e)
  go rest false (inr h) = more (rest h) where
    more : In (ids ks) id ⊎ (kid ≡ id) → In (ids (k ∷ ks)) id ⊎ (kid ≡ id)
    more (inl i) = inl (inr i)
    more (inr e) = inr e

pub granted_once : (table : List KnownKey) (kid : List ℕ) (key : KeyBytes) → KnowsEachOnce table → KnowsEachOnce (grant_in table kid key)
granted_once [] kid key once = ((λ h. h), tt)
granted_once (k ∷ ks) kid key once = go (granted_once ks kid key once.1) (bytes_eq k.kid kid) refl where
  go : KnowsEachOnce (grant_in ks kid key) → (b : Bool) → bytes_eq k.kid kid ≡ b → KnowsEachOnce (if b then record k { key = Some key } ∷ ks else k ∷ grant_in ks kid key)
  go rest true is = once
  go rest false is = (λ h. other (granted_in ks kid key k.kid h), rest) where
    other : In (ids ks) k.kid ⊎ (kid ≡ k.kid) → ⊥
    other (inl i) = once.0 i
    other (inr e) = not_from_Decides (bytes_eq k.kid kid) (bytes_eq-Decides k.kid kid) is cc

ids_released : (table : List KnownKey) → ids (map released table) ≡ ids table
ids_released [] = refl
ids_released (k ∷ ks) = ap (λ xs. k.kid ∷ xs) (ids_released ks)

pub released_once : (table : List KnownKey) → KnowsEachOnce table → KnowsEachOnce (map released table)
released_once table once = rw (ids_released table) once
