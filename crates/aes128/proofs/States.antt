-- States: lists of 16 bytes.
use Rattle.std.proofs.Common.{◌≡◌, ℕ, zero, suc, ◌<◌, List, [], ◌∷◌, length, map, slice_index, refl, sym, ◌∙◌, arith}
use Rattle.std.proofs.lemmas.List.{same_lists, get_or_default}
use Rattle.std.proofs.lemmas.List.FromFn.{get_or-map-range_with_len, length-map-range_with_len}
use Rattle.std.specs.List.{range_with_len}
use Rattle.aes128.specs.Bytes.{AreBytes}
use Rattle.aes128.specs.State.{at, state_of}

pub same_state : (f g : ℕ → ℕ → ℕ) → ((r c : ℕ) → f r c ≡ g r c) → state_of f ≡ state_of g
same_state f g h = rw (h 0 0, h 1 0, h 2 0, h 3 0, h 0 1, h 1 1, h 2 1, h 3 1, h 0 2, h 1 2, h 2 2, h 3 2, h 0 3, h 1 3, h 2 3, h 3 3) refl

spread : (n : ℕ) (s : List ℕ) → length s ≡ n → s ≡ map (λ i. slice_index s i) (range_with_len 0 n)
spread n s len =
    same_lists s (map (λ i. slice_index s i) (range_with_len 0 n)) (len ∙ sym (length-map-range_with_len (λ i. slice_index s i) 0 n))
    (λ k d h. let lt : k < n = omega arith in
    get_or_default s k d 0 h ∙ sym (get_or-map-range_with_len (λ i. slice_index s i) 0 n k k d lt (omega arith)))

-- a list of 16 is its bytes by row and column
pub whole_state : (s : List ℕ) → length s ≡ 16 → state_of (λ r c. at s r c) ≡ s
whole_state s len = sym (spread 16 s len)

cons_each : (x : ℕ) (xs : List ℕ) → x < 256 → ((i : ℕ) → slice_index xs i < 256) → (i : ℕ) → slice_index (x ∷ xs) i < 256
cons_each x xs lt fits zero = lt
cons_each x xs lt fits (suc i) = fits i

cons_bytes : {x : ℕ} {xs : List ℕ} → x < 256 → AreBytes xs → AreBytes (x ∷ xs)
cons_bytes {x} {xs} lt fits = record { each = cons_each x xs lt fits.each }

none_each : (i : ℕ) → slice_index [] i < 256
none_each i = omega arith

no_bytes : AreBytes []
no_bytes = record { each = none_each }

pub state_bytes : (f : ℕ → ℕ → ℕ) → ((r c : ℕ) → f r c < 256) → AreBytes (state_of f)
state_bytes f h =
    cons_bytes (h 0 0) (cons_bytes (h 1 0) (cons_bytes (h 2 0) (cons_bytes (h 3 0)
    (cons_bytes (h 0 1) (cons_bytes (h 1 1) (cons_bytes (h 2 1) (cons_bytes (h 3 1)
    (cons_bytes (h 0 2) (cons_bytes (h 1 2) (cons_bytes (h 2 2) (cons_bytes (h 3 2)
    (cons_bytes (h 0 3) (cons_bytes (h 1 3) (cons_bytes (h 2 3) (cons_bytes (h 3 3) no_bytes)))))))))))))))
