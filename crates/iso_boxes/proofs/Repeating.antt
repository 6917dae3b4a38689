-- Reading one after the other, as a loop does.
use Rattle.std.proofs.Common.{◌≡◌, ℕ, suc, ◌-◌, ◌+◌, ◌≤◌, ◌<◌, List, [], ◌∷◌, ◌++◌, Result, Ok, Err, refl, sym, ap, subst, ◌∙◌, append_assoc, arith, zero, ◌*◌, length}
use Rattle.std.proofs.lemmas.List.{append-nil}
use Rattle.iso_boxes.specs.Reading.{Reading, goes_on, yield, repeated, one_each}

-- what was read before, and what is still read
abbrev pub with_front : {E A : Type 0} → List A → Result (List A × List ℕ) E → Result (List A × List ℕ) E
with_front front (Ok x) = Ok (front ++ x.0, x.1)
with_front front (Err e) = Err e

-- the first of them, and the others
abbrev joined : {E A : Type 0} → A → Result (List A × List ℕ) E → Result (List A × List ℕ) E
joined x (Ok xs) = Ok (x ∷ xs.0, xs.1)
joined x (Err e) = Err e

regroup : {E A : Type 0} (front : List A) (x : A) (read : Result (List A × List ℕ) E) → with_front front (joined x read) ≡ with_front (front ++ x ∷ []) read
regroup {E = E} {A = A} front x (Ok xs) = let f : List A → Result (List A × List ℕ) E = λ ys. Ok (ys, xs.1) in ap f (simp append_assoc)
regroup front x (Err f) = refl

then_yield : {E A : Type 0} (x : A) (read : Result (List A × List ℕ) E) → goes_on read (λ (xs : List A). yield (x ∷ xs)) ≡ joined x read
then_yield x (Ok xs) = refl
then_yield x (Err e) = refl

next : {E A : Type 0} (r : Reading E A) (n : ℕ) (bytes : List ℕ) (x : A) (after : List ℕ) → r bytes ≡ Ok (x, after) → repeated (suc n) r bytes ≡ joined x (repeated n r after)
unfolding repeated
next r n bytes x after h = rw h (then_yield x (repeated n r after))

stops : {E A : Type 0} (r : Reading E A) (n : ℕ) (bytes : List ℕ) (e : E) → r bytes ≡ Err e → repeated (suc n) r bytes ≡ Err e
unfolding repeated
stops r n bytes e h = rw h refl

pub one_more : {E A : Type 0} (r : Reading E A) (front : List A) (count i : ℕ) (bytes : List ℕ) (x : A) (after : List ℕ) (total : Result (List A × List ℕ) E) → i < count → r bytes ≡ Ok (x, after)
    → with_front front (repeated (count - i) r bytes) ≡ total → with_front (front ++ x ∷ []) (repeated (count - (i + 1)) r after) ≡ total
one_more r front count i bytes x after total lt h so_far =
    let k : count - i ≡ suc (count - (i + 1)) = omega arith in
    let n = next r (count - (i + 1)) bytes x after h in
    sym (regroup front x (repeated (count - (i + 1)) r after)) ∙ (rw (k, n) at so_far)

pub broken_off : {E A : Type 0} (r : Reading E A) (front : List A) (count i : ℕ) (bytes : List ℕ) (e : E) (total : Result (List A × List ℕ) E) → i < count → r bytes ≡ Err e
    → with_front front (repeated (count - i) r bytes) ≡ total → total ≡ Err e
broken_off r front count i bytes e total lt h so_far =
    let k : count - i ≡ suc (count - (i + 1)) = omega arith in
    let n = stops r (count - (i + 1)) bytes e h in
    sym (rw (k, n) at so_far)

pub finished : {E A : Type 0} (r : Reading E A) (front : List A) (count i : ℕ) (bytes : List ℕ) (total : Result (List A × List ℕ) E) → count ≤ i
    → with_front front (repeated (count - i) r bytes) ≡ total → total ≡ Ok (front, bytes)
unfolding repeated
finished {E = E} {A = A} r front count i bytes total le so_far =
    let k : count - i ≡ 0 = omega arith in
    let f : List A → Result (List A × List ℕ) E = λ xs. Ok (xs, bytes) in
    sym (rw k at so_far) ∙ ap f (append-nil front)

-- ---- one for each item of a list

pub each_more : {E A B : Type 0} (r : B → Reading E A) (front : List A) (b : B) (bs : List B) (bytes : List ℕ) (x : A) (after : List ℕ) (total : Result (List A × List ℕ) E) → r b bytes ≡ Ok (x, after)
    → with_front front (one_each r (b ∷ bs) bytes) ≡ total → with_front (front ++ x ∷ []) (one_each r bs after) ≡ total
unfolding one_each
each_more {E = E} {A = A} r front b bs bytes x after total h so_far =
    let n : one_each r (b ∷ bs) bytes ≡ joined x (one_each r bs after) = rw h (then_yield x (one_each r bs after)) in
    sym (regroup front x (one_each r bs after)) ∙ (rw n at so_far)

pub each_broken : {E A B : Type 0} (r : B → Reading E A) (front : List A) (b : B) (bs : List B) (bytes : List ℕ) (e : E) (total : Result (List A × List ℕ) E) → r b bytes ≡ Err e
    → with_front front (one_each r (b ∷ bs) bytes) ≡ total → total ≡ Err e
unfolding one_each
each_broken r front b bs bytes e total h so_far = sym (rw h at so_far)

pub each_finished : {E A B : Type 0} (r : B → Reading E A) (front : List A) (bytes : List ℕ) (total : Result (List A × List ℕ) E) → with_front front (one_each r [] bytes) ≡ total → total ≡ Ok (front, bytes)
unfolding one_each
each_finished {E = E} {A = A} r front bytes total so_far =
    let f : List A → Result (List A × List ℕ) E = λ xs. Ok (xs, bytes) in
    sym so_far ∙ ap f (append-nil front)

-- ---- how many there are, and how many bytes they take

abbrev pub Takes : {E A : Type 0} → ℕ → Reading E A → Type 0
Takes {A = A} k r = (bytes : List ℕ) (x : A) (after : List ℕ) → r bytes ≡ Ok (x, after) → length after + k ≤ length bytes

-- what was read of several, and the bytes that they took
pub record Counted (A : Type 0) (n k : ℕ) (bytes : List ℕ) (x : List A × List ℕ) : Type 0 where
  pub many : length x.0 ≡ n
  pub taken : length x.1 + n * k ≤ length bytes

counted_at : {E A : Type 0} (x : A) (n k : ℕ) (bytes after : List ℕ) (read : Result (List A × List ℕ) E) → length after + k ≤ length bytes → ((y : List A × List ℕ) → read ≡ Ok y → Counted A n k after y)
    → (y : List A × List ℕ) → goes_on read (λ (xs : List A). yield (x ∷ xs)) ≡ Ok y → Counted A (suc n) k bytes y
counted_at {A = A} x n k bytes after (Ok xs) took h y e =
    let c = h xs refl in
    let same : (x ∷ xs.0, xs.1) ≡ y = cc in
    subst (Counted A (suc n) k bytes) same (record { many = ap suc c.many; taken = omega (arith, c.taken) })
counted_at x n k bytes after (Err f) took h y e = absurd cc

counted_first : {E A : Type 0} (n k : ℕ) (bytes : List ℕ) (read : Result (A × List ℕ) E) (rest : A → Reading E (List A)) → ((x : A) (after : List ℕ) → read ≡ Ok (x, after) → length after + k ≤ length bytes)
    → ((x : A) (after : List ℕ) (y : List A × List ℕ) → rest x after ≡ Ok y → Counted A n k after y)
    → (y : List A × List ℕ) → goes_on read (λ (x : A) (after : List ℕ). goes_on (rest x after) (λ (xs : List A). yield (x ∷ xs))) ≡ Ok y → Counted A (suc n) k bytes y
counted_first n k bytes (Ok x) rest took h y e = counted_at x.0 n k bytes x.1 (rest x.0 x.1) (took x.0 x.1 refl) (h x.0 x.1) y e
counted_first n k bytes (Err f) rest took h y e = absurd cc

-- as many as were asked for, each of k bytes at least
pub counted : {E A : Type 0} (r : Reading E A) (k : ℕ) → Takes k r → (n : ℕ) (bytes : List ℕ) (x : List A × List ℕ) → repeated n r bytes ≡ Ok x → Counted A n k bytes x
unfolding repeated
counted {A = A} r k takes zero bytes x e =
    let same : ([], bytes) ≡ x = cc in
    subst (Counted A 0 k bytes) same (record { many = refl; taken = omega arith })
counted r k takes (suc n) bytes x e = counted_first n k bytes (r bytes) (λ y after. repeated n r after) (takes bytes) (λ y after z. counted r k takes n after z) x e
