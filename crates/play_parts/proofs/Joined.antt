-- The own entries of two passes that were joined: places a, seen s, and places b, seen t; what is seen after that is u.
use Rattle.std.proofs.Common.{◌≡◌, ℕ, ◌+◌, ◌<◌, ◌⊎◌, List, [], ◌++◌, Contains, Some, ap, sym, subst, ◌∙◌, arith, inl, inr}
use Rattle.std.specs.Prelude.{slice_get}
use Rattle.std.specs.List.{flat_map, AllByRecursion}
use mathlib.Core.List.{IsPrefix}
use Rattle.eme_types.specs.declared.entry.Entry.{Entry}
use Rattle.book_lock.specs.Places.{times}
use Rattle.book_lock.proofs.Counts.{times-append}
use Rattle.decrypt_workers.specs.Desks.{Placed}
use Rattle.shared_cdm.specs.Own.{own_in, AreSeen, entries}
use Rattle.shared_cdm.proofs.Own.{own_later, zero_or}
use Rattle.shared_cdm.proofs.Parts.{own_all, own_flat, own_swap}
use Rattle.shared_cdm.proofs.Held.{own_stands, own_contains}
use Rattle.play_parts.proofs.Reading.{all_entries, all_placed}

-- ---- what every own entry is

all_kept : (P : Entry → Type 0) (a : List ℕ) (s u : List Entry) → AreSeen a s → IsPrefix s u → AllByRecursion P (entries (own_in a s)) → AllByRecursion (λ x. P x.1) (own_in a u)
all_kept P a s u below p f = subst (AllByRecursion (λ (x : ℕ × Entry). P x.1)) (sym (own_later a s u below p)) (all_placed P (own_in a s) f)

-- a fact of the entries of both passes is one of those of the joined pass
pub all_joined : (P : Entry → Type 0) (a b : List ℕ) (s t u : List Entry) → AreSeen a s → AreSeen b t → IsPrefix s u → IsPrefix t u → AllByRecursion P (entries (own_in a s)) → AllByRecursion P (entries (own_in b t)) → AllByRecursion P (entries (own_in (a ++ b) u))
all_joined P a b s t u below_a below_b p q f g =
    all_entries P (own_in (a ++ b) u) (own_all (λ (x : ℕ × Entry). P x.1) a b 1 u (all_kept P a s u below_a p f) (all_kept P b t u below_b q g))

-- ---- what is read off

-- where the second pass gives nothing
pub read_first : {A : Type 0} (f : Entry → List A) (a b : List ℕ) (s t u : List Entry) → AreSeen a s → AreSeen b t → IsPrefix s u → IsPrefix t u → AllByRecursion (λ e. f e ≡ []) (entries (own_in b t)) → flat_map f (entries (own_in (a ++ b) u)) ≡ flat_map f (entries (own_in a s))
read_first {A} f a b s t u below_a below_b p q none =
    own_flat f a b 1 u (all_kept (λ (e : Entry). f e ≡ []) b t u below_b q none) ∙ ap (λ (xs : Placed). flat_map f (entries xs)) (own_later a s u below_a p)

-- where the first gives nothing
pub read_second : {A : Type 0} (f : Entry → List A) (a b : List ℕ) (s t u : List Entry) → AreSeen a s → AreSeen b t → IsPrefix s u → IsPrefix t u → AllByRecursion (λ e. f e ≡ []) (entries (own_in a s)) → flat_map f (entries (own_in (a ++ b) u)) ≡ flat_map f (entries (own_in b t))
read_second {A} f a b s t u below_a below_b p q none =
    ap (λ (xs : Placed). flat_map f (entries xs)) (own_swap a b 1 u) ∙ read_first f b a t s u below_b below_a q p none

-- ---- an own entry

-- of two own entries with one place
pub own_same : (own more : List ℕ) (s : List Entry) (place : ℕ) (e x : Entry) → Contains (own_in own s) (place, e) → Contains (own_in more s) (place, x) → e ≡ x
own_same own more s place e x h k =
    let a = own_stands 1 own s place e h in
    let b = own_stands 1 more s place x k in
    let same : a.0 ≡ b.0 = omega (arith, a.1, b.1) in
    let at : slice_get s b.0 ≡ Some e = subst (λ (n : ℕ). slice_get s n ≡ Some e) same a.2 in
    cc (at, b.2)

own_if : (a b : List ℕ) (u : List Entry) (place : ℕ) (e : Entry) → (0 < times place a → 0 < times place b) → Contains (own_in a u) (place, e) → Contains (own_in b u) (place, e)
own_if a b u place e f h =
    let r = own_stands 1 a u place e h in
    let there : Contains (own_in b u) (1 + r.0, e) = own_contains 1 b u r.0 e r.2 (subst (λ (n : ℕ). 0 < times n b) r.1 (f r.3)) in
    subst (λ (n : ℕ). Contains (own_in b u) (n, e)) (sym r.1) there

-- an own entry of the first pass is one of the joined pass
pub own_left : (a b : List ℕ) (u : List Entry) (place : ℕ) (e : Entry) → Contains (own_in a u) (place, e) → Contains (own_in (a ++ b) u) (place, e)
own_left a b u place e h = own_if a (a ++ b) u place e (λ some. omega (arith, times-append place a b, some)) h

-- and one of the second
pub own_right : (a b : List ℕ) (u : List Entry) (place : ℕ) (e : Entry) → Contains (own_in b u) (place, e) → Contains (own_in (a ++ b) u) (place, e)
own_right a b u place e h = own_if b (a ++ b) u place e (λ some. omega (arith, times-append place a b, some)) h

-- and one of the joined pass is one of either
pub own_either : (a b : List ℕ) (u : List Entry) (place : ℕ) (e : Entry) → Contains (own_in (a ++ b) u) (place, e) → Contains (own_in a u) (place, e) ⊎ Contains (own_in b u) (place, e)
own_either a b u place e h =
    let some : 0 < times place (a ++ b) = (own_stands 1 (a ++ b) u place e h).3 in
    let sum : times place (a ++ b) ≡ times place a + times place b = times-append place a b in
    elim (zero_or (times place a)) [
      | inl none ↦ inr (own_if (a ++ b) b u place e (λ _. omega (arith, some, sum, none)) h)
      | inr mine ↦ inl (own_if (a ++ b) a u place e (λ _. mine) h)
    ]
