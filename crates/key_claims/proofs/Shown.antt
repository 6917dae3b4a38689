-- What a track shows.
use Rattle.std.proofs.Common.{zero, suc, ◌≡◌, ℕ, ◌<◌, ◌≤◌, List, [], ◌∷◌, ◌++◌, length, Some, None, refl, ap, arith}
use Rattle.std.specs.Prelude.{slice_get}
use Rattle.std.proofs.lemmas.Option.{same_Some}
use Rattle.eme_types.specs.declared.sample.EncSample.{EncSample}
use Rattle.key_claims.specs.declared.track.Output.{Output}
use Rattle.key_claims.specs.TrackValue.{bytes_out, shown}

pub shown_length : (fed : List EncSample) (os : List Output) → length os ≤ length fed → length (shown fed os) ≡ length os
shown_length fed [] le = refl
shown_length [] (o ∷ os) le = absurd (omega (arith, le))
shown_length (x ∷ fed) (o ∷ os) le = ap suc (shown_length fed os (omega (arith, le)))

pub shown_fed : (fed more : List EncSample) (os : List Output) → length os ≤ length fed → shown (fed ++ more) os ≡ shown fed os
shown_fed [] more [] le = refl
shown_fed [] more (o ∷ os) le = absurd (omega (arith, le))
shown_fed (x ∷ fed) more [] le = refl
shown_fed (x ∷ fed) more (o ∷ os) le = ap (λ (ys : List (List ℕ)). bytes_out x o ∷ ys) (shown_fed fed more os (omega (arith, le)))

pub shown_put : (fed : List EncSample) (os : List Output) (o : Output) (x : EncSample) → slice_get fed (length os) ≡ Some x → shown fed (os ++ o ∷ []) ≡ shown fed os ++ bytes_out x o ∷ []
shown_put [] os o x at = absurd cc
shown_put (y ∷ fed) [] o x at = ap (λ (z : EncSample). bytes_out z o ∷ []) (same_Some y x at)
shown_put (y ∷ fed) (p ∷ os) o x at = ap (λ (ys : List (List ℕ)). bytes_out y p ∷ ys) (shown_put fed os o x at)

some_output : (a b : Output) → Some a ≡ Some b → a ≡ b
some_output a b e = cc

pub shown_at : (fed : List EncSample) (os : List Output) (i : ℕ) (x : EncSample) (o : Output) → slice_get fed i ≡ Some x → slice_get os i ≡ Some o → slice_get (shown fed os) i ≡ Some (bytes_out x o)
shown_at fed [] i x o f g = absurd cc
shown_at [] (p ∷ os) i x o f g = absurd cc
shown_at (y ∷ fed) (p ∷ os) zero x o f g = (let a : y ≡ x = same_Some _ _ f in let b : p ≡ o = some_output _ _ g in rw (a, b) refl)
shown_at (y ∷ fed) (p ∷ os) (suc i) x o f g = shown_at fed os i x o f g

pub shown_past : (fed : List EncSample) (os : List Output) (i : ℕ) → length os ≤ i → slice_get (shown fed os) i ≡ None
shown_past fed [] i le = refl
shown_past [] (p ∷ os) i le = refl
shown_past (y ∷ fed) (p ∷ os) zero le = absurd (omega (arith, le))
shown_past (y ∷ fed) (p ∷ os) (suc i) le = shown_past fed os i (omega (arith, le))

pub get_some : (xs : List EncSample) (i : ℕ) → i < length xs → (x : EncSample) × (slice_get xs i ≡ Some x)
get_some [] i lt = absurd (omega arith)
get_some (x ∷ xs) zero lt = (x, refl)
get_some (x ∷ xs) (suc i) lt = get_some xs i (omega arith)
