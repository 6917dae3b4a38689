-- Tables and lists of statuses of different lengths differ.
use Rattle.std.proofs.Common.{◌≡◌, ℕ, false, List, [], ◌∷◌, length, refl, ap, suc}
use Rattle.std.proofs.lemmas.Bool.{and_right}
use Rattle.eme_types.specs.declared.kid.Status.{Status}
use Rattle.key_statuses.specs.declared.table.KnownKey.{KnownKey}
use Rattle.key_statuses.specs.Statuses.{same_table, same_statuses}

pub tables_differ : (xs ys : List KnownKey) → (length xs ≡ length ys → ⊥) → same_table xs ys ≡ false
tables_differ [] [] ne = absurd (ne refl)
tables_differ [] (y ∷ ys) ne = refl
tables_differ (x ∷ xs) [] ne = refl
tables_differ (x ∷ xs) (y ∷ ys) ne = rw (tables_differ xs ys (λ e. ne (ap suc e))) (and_right _ false refl)

pub statuses_differ : (xs ys : List (List ℕ × Status)) → (length xs ≡ length ys → ⊥) → same_statuses xs ys ≡ false
statuses_differ [] [] ne = absurd (ne refl)
statuses_differ [] (y ∷ ys) ne = refl
statuses_differ (x ∷ xs) [] ne = refl
statuses_differ (x ∷ xs) (y ∷ ys) ne = rw (statuses_differ xs ys (λ e. ne (ap suc e))) (and_right _ false refl)
