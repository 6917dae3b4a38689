-- The tests of tables and of lists of statuses tell equality.
use Rattle.std.proofs.Common.{◌≡◌, ℕ, Bool, true, false, Decides, List, [], ◌∷◌, Option, Some, None, refl, ap, not}
use Rattle.std.specs.Prelude.{◌&&◌}
use Rattle.std.proofs.lemmas.Slice.Eq.{bytes_eq-Decides}
use Rattle.std.proofs.lemmas.Bool.Decides.{Decides-and, Decides-like}
use Rattle.eme_types.specs.declared.kid.KeyBytes.{KeyBytes}
use Rattle.eme_types.specs.declared.kid.Status.{Status}
use Rattle.eme_types.specs.declared.kid.Status.TheVariants.{Usable, Expired, Released, UsableInFuture}
use Rattle.key_statuses.specs.declared.table.KnownKey.{KnownKey}
use Rattle.key_statuses.specs.Statuses.{same_key, same_table, same_status, same_statuses, statuses, is_changed}

abbrev some_key : List ℕ → Option KeyBytes
some_key bytes = Some (record { bytes = bytes })

abbrev bytes_in : Option KeyBytes → List ℕ
bytes_in None = []
bytes_in (Some key) = key.bytes

keys_alike : (a b : Option KeyBytes) → Decides (same_key a b) (a ≡ b)
keys_alike None None = (λ _. refl, λ _. refl)
keys_alike None (Some b) = (λ e. cc, λ e. cc)
keys_alike (Some a) None = (λ e. cc, λ e. cc)
keys_alike (Some a) (Some b) = Decides-like (same_key (Some a) (Some b)) (λ e. ap some_key e) (λ e. ap bytes_in e) (bytes_eq-Decides a.bytes b.bytes)

abbrev known_as : List ℕ → Option KeyBytes → KnownKey
known_as kid key = record { kid = kid; key = key }

known_alike : (a b : List ℕ) (k l : Option KeyBytes) → a ≡ b → k ≡ l → known_as a k ≡ known_as b l
known_alike a b k l e f = rw (e, f) refl

pub tables_alike : (xs ys : List KnownKey) → Decides (same_table xs ys) (xs ≡ ys)
tables_alike [] [] = (λ _. refl, λ _. refl)
tables_alike [] (y ∷ ys) = (λ e. cc, λ e. cc)
tables_alike (x ∷ xs) [] = (λ e. cc, λ e. cc)
tables_alike (x ∷ xs) (y ∷ ys) =
    Decides-like (same_table (x ∷ xs) (y ∷ ys)) joined parted (Decides-and _ _ (Decides-and _ _ (bytes_eq-Decides x.kid y.kid) (keys_alike x.key y.key)) (tables_alike xs ys)) where
      joined : ((x.kid ≡ y.kid) × (x.key ≡ y.key)) × (xs ≡ ys) → x ∷ xs ≡ y ∷ ys
      joined h = let e : x ≡ y = known_alike x.kid y.kid x.key y.key h.0.0 h.0.1 in let f : xs ≡ ys = h.1 in cc

      parted : x ∷ xs ≡ y ∷ ys → ((x.kid ≡ y.kid) × (x.key ≡ y.key)) × (xs ≡ ys)
      parted h = let e : x ≡ y = cc in let f : xs ≡ ys = cc in ((ap (λ (k : KnownKey). k.kid) e, ap (λ (k : KnownKey). k.key) e), f)

status_alike : (a b : Status) → Decides (same_status a b) (a ≡ b)
status_alike Usable Usable = (λ _. refl, λ _. refl)
status_alike Usable Expired = (λ e. cc, λ e. cc)
status_alike Usable Released = (λ e. cc, λ e. cc)
status_alike Usable UsableInFuture = (λ e. cc, λ e. cc)
status_alike Expired Usable = (λ e. cc, λ e. cc)
status_alike Expired Expired = (λ _. refl, λ _. refl)
status_alike Expired Released = (λ e. cc, λ e. cc)
status_alike Expired UsableInFuture = (λ e. cc, λ e. cc)
status_alike Released Usable = (λ e. cc, λ e. cc)
status_alike Released Expired = (λ e. cc, λ e. cc)
status_alike Released Released = (λ _. refl, λ _. refl)
status_alike Released UsableInFuture = (λ e. cc, λ e. cc)
status_alike UsableInFuture Usable = (λ e. cc, λ e. cc)
status_alike UsableInFuture Expired = (λ e. cc, λ e. cc)
status_alike UsableInFuture Released = (λ e. cc, λ e. cc)
status_alike UsableInFuture UsableInFuture = (λ _. refl, λ _. refl)

abbrev status_as : List ℕ → Status → List ℕ × Status
status_as kid status = (kid, status)

pair_alike : (a b : List ℕ) (s t : Status) → a ≡ b → s ≡ t → status_as a s ≡ status_as b t
pair_alike a b s t e f = rw (e, f) refl

pub statuses_alike : (xs ys : List (List ℕ × Status)) → Decides (same_statuses xs ys) (xs ≡ ys)
statuses_alike [] [] = (λ _. refl, λ _. refl)
statuses_alike [] (y ∷ ys) = (λ e. cc, λ e. cc)
statuses_alike (x ∷ xs) [] = (λ e. cc, λ e. cc)
statuses_alike (x ∷ xs) (y ∷ ys) =
    Decides-like (same_statuses (x ∷ xs) (y ∷ ys)) joined parted (Decides-and _ _ (Decides-and _ _ (bytes_eq-Decides x.0 y.0) (status_alike x.1 y.1)) (statuses_alike xs ys)) where
      joined : ((x.0 ≡ y.0) × (x.1 ≡ y.1)) × (xs ≡ ys) → x ∷ xs ≡ y ∷ ys
      joined h = let e : x ≡ y = pair_alike x.0 y.0 x.1 y.1 h.0.0 h.0.1 in let f : xs ≡ ys = h.1 in cc

      parted : x ∷ xs ≡ y ∷ ys → ((x.0 ≡ y.0) × (x.1 ≡ y.1)) × (xs ≡ ys)
      parted h = let e : x ≡ y = cc in let f : xs ≡ ys = cc in ((ap (λ (s : List ℕ × Status). s.0) e, ap (λ (s : List ℕ × Status). s.1) e), f)

-- unchanged exactly where the table and its statuses are equal
pub changed_exactly : (old : List KnownKey) (before : Status) (new : List KnownKey) (after : Status) → Decides (not (is_changed old before new after)) ((old ≡ new) × (statuses old before ≡ statuses new after))
changed_exactly old before new after =
    Decides-like (not (is_changed old before new after)) (λ h. h) (λ h. h) (twice (same_table old new && same_statuses (statuses old before) (statuses new after)) (Decides-and _ _ (tables_alike old new) (statuses_alike (statuses old before) (statuses new after)))) where
      twice : {P : Type 0} → (b : Bool) → Decides b P → Decides (not (not b)) P
      twice true d = d
      twice false d = d
