-- One number among others: added twice, taken out twice, in its place.
use Rattle.std.proofs.Common.{◌≡◌, ◌∙◌, ℕ, ◌+◌, ◌<◌, ◌≤◌, Bool, true, false, not, cond, if◌then◌else◌, nat_lt, nat_eq, List, [], ◌∷◌, refl, sym, ap, arith, le-ltb, lt-ltb, eq-eqb, ne_eqb}
use Rattle.std.specs.List.{AllByRecursion}
use Rattle.key_statuses.specs.Index.{with_number, without_number}
use Rattle.key_sessions.specs.Indexed.{placed}

pub with_twice : (n : ℕ) (xs : List ℕ) → with_number n (with_number n xs) ≡ with_number n xs
with_twice n [] = rw (le-ltb n n (omega arith), eq-eqb n n refl) refl
with_twice n (x ∷ xs) = go (with_twice n xs) (nat_lt x n) refl (nat_eq x n) refl where
  go : with_number n (with_number n xs) ≡ with_number n xs → (b : Bool) → nat_lt x n ≡ b → (c : Bool) → nat_eq x n ≡ c → with_number n (if b then x ∷ with_number n xs else (if c then x ∷ xs else n ∷ (x ∷ xs))) ≡ (if b then x ∷ with_number n xs else (if c then x ∷ xs else n ∷ (x ∷ xs)))
  go rest true lt c is = rw lt (ap (λ ys. x ∷ ys) rest)
  go rest false lt true is = rw (lt, is) refl
  go rest false lt false is = rw (le-ltb n n (omega arith), eq-eqb n n refl) refl

pub without_twice : (n : ℕ) (xs : List ℕ) → without_number n (without_number n xs) ≡ without_number n xs
without_twice n [] = refl
without_twice n (x ∷ xs) = go (without_twice n xs) (nat_eq x n) refl where
  go : without_number n (without_number n xs) ≡ without_number n xs → (b : Bool) → nat_eq x n ≡ b → without_number n (cond (not b) (x ∷ without_number n xs) (without_number n xs)) ≡ cond (not b) (x ∷ without_number n xs) (without_number n xs)
  go rest true is = rest
  go rest false is = rw is (ap (λ ys. x ∷ ys) rest)

pub without_with : (n : ℕ) (xs : List ℕ) → without_number n (with_number n xs) ≡ without_number n xs
without_with n [] = rw (eq-eqb n n refl) refl
without_with n (x ∷ xs) = go (without_with n xs) (nat_lt x n) (nat_eq x n) refl where
  go : without_number n (with_number n xs) ≡ without_number n xs → (b c : Bool) → nat_eq x n ≡ c → without_number n (if b then x ∷ with_number n xs else (if c then x ∷ xs else n ∷ (x ∷ xs))) ≡ cond (not c) (x ∷ without_number n xs) (without_number n xs)
  go rest true true is = rw is rest
  go rest true false is = rw is (ap (λ ys. x ∷ ys) rest)
  go rest false true is = rw is refl
  go rest false false is = rw (eq-eqb n n refl, is) refl

-- each of the numbers is greater
abbrev pub AreGreater : ℕ → List ℕ → Type 0
AreGreater n xs = AllByRecursion (λ m. n < m) xs

with_first : (n : ℕ) (xs : List ℕ) → AreGreater n xs → with_number n xs ≡ n ∷ xs
with_first n [] all = refl
with_first n (x ∷ xs) all = rw (le-ltb x n (omega (arith, all.0)), ne_eqb x n (λ e. omega (arith, all.0, e))) refl

without_none : (n : ℕ) (xs : List ℕ) → AreGreater n xs → without_number n xs ≡ xs
without_none n [] all = refl
without_none n (x ∷ xs) all = rw (ne_eqb x n (λ e. omega (arith, all.0, e))) (ap (λ ys. x ∷ ys) (without_none n xs all.1))

-- the number itself, before greater ones
pub placed_first : (a b : Bool) (n : ℕ) (xs : List ℕ) → AreGreater n xs → (if a then n ∷ xs else xs) ≡ placed a n (if b then n ∷ xs else xs)
placed_first true true n xs all = rw (eq-eqb n n refl, without_none n xs all, with_first n xs all) refl
placed_first true false n xs all = rw (without_none n xs all, with_first n xs all) refl
placed_first false true n xs all = rw (eq-eqb n n refl, without_none n xs all) refl
placed_first false false n xs all = rw (without_none n xs all) refl

-- a smaller number stays before
pub placed_next : (a b : Bool) (k n : ℕ) (xs ys : List ℕ) → k < n → ys ≡ placed a n xs → (if b then k ∷ ys else ys) ≡ placed a n (if b then k ∷ xs else xs)
placed_next a false k n xs ys lt is = is
placed_next true true k n xs ys lt is = rw (ne_eqb k n (λ e. omega (arith, lt, e)), lt-ltb k n lt) (ap (λ zs. k ∷ zs) is)
placed_next false true k n xs ys lt is = rw (ne_eqb k n (λ e. omega (arith, lt, e))) (ap (λ zs. k ∷ zs) is)

-- added where a new table holds a key, then taken out where it holds none
pub follow_ok : (n : ℕ) (xs ys zs : List ℕ) (was is out : Bool) → (is ≡ true → out ≡ false) → (is ≡ false → was ≡ true → out ≡ true) → xs ≡ placed was n xs → ys ≡ (if is then with_number n xs else xs) → zs ≡ (if out then without_number n ys else ys) → zs ≡ placed is n xs
follow_ok n xs ys zs was true true stay go old add drop = (let no : true ≡ false = stay refl in cc)
follow_ok n xs ys zs true true false stay go old add drop = drop ∙ add ∙ ap (with_number n) old ∙ with_twice n (without_number n xs)
follow_ok n xs ys zs false true false stay go old add drop = drop ∙ add ∙ ap (with_number n) old
follow_ok n xs ys zs was false true stay go old add drop = drop ∙ ap (without_number n) add
follow_ok n xs ys zs true false false stay go old add drop = (let no : false ≡ true = go refl refl in cc)
follow_ok n xs ys zs false false false stay go old add drop = drop ∙ add ∙ old

-- added here and there, then taken out where the old table holds no key
pub follow_err : (n : ℕ) (xs ys zs : List ℕ) (was some out : Bool) → (was ≡ true → out ≡ false) → (was ≡ false → some ≡ true → out ≡ true) → xs ≡ placed was n xs → ys ≡ (if some then with_number n xs else xs) → zs ≡ (if out then without_number n ys else ys) → zs ≡ placed was n xs
follow_err n xs ys zs true some true stay go old add drop = (let no : true ≡ false = stay refl in cc)
follow_err n xs ys zs true true false stay go old add drop = drop ∙ add ∙ ap (with_number n) old ∙ with_twice n (without_number n xs)
follow_err n xs ys zs true false false stay go old add drop = drop ∙ add ∙ old
follow_err n xs ys zs false true true stay go old add drop = drop ∙ ap (without_number n) add ∙ without_with n xs
follow_err n xs ys zs false true false stay go old add drop = (let no : false ≡ true = go refl refl in cc)
follow_err n xs ys zs false false true stay go old add drop = drop ∙ ap (without_number n) add
follow_err n xs ys zs false false false stay go old add drop = drop ∙ add ∙ old
