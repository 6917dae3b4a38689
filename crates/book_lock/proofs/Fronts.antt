-- Beginnings of one list.
use Rattle.std.proofs.Common.{◌≡◌, ◌≤◌, Bool, if◌then◌else◌, List, [], ◌∷◌, ◌++◌, length, refl, ap, sym, ◌∙◌, subst, arith, append_assoc, length-append, lt_of_not-le}
use Rattle.std.proofs.lemmas.Bool.{lt-ltb, le-ltb}
use mathlib.Core.List.{IsPrefix}
use native.Mathlib.Decide.{dec_le}
use Rattle.book_lock.specs.Views.{longer}

-- each list begins with itself
pub prefix_self : {A : Type 0} (xs : List A) → IsPrefix xs xs
prefix_self [] = ([], refl)
prefix_self (x ∷ xs) = (let r = prefix_self xs in r.0, ap (λ ys. x ∷ ys) (prefix_self xs).1)

pub prefix_is : {A : Type 0} (xs ys : List A) → xs ≡ ys → IsPrefix xs ys
prefix_is {A} xs ys e = subst (λ (z : List A). IsPrefix xs z) e (prefix_self xs)

-- of two beginnings of one list the shorter begins the longer
pub prefix_shorter : {A : Type 0} (xs ys zs : List A) → IsPrefix xs zs → IsPrefix ys zs → length xs ≤ length ys → IsPrefix xs ys
prefix_shorter [] ys zs p q le = (ys, refl)
prefix_shorter (x ∷ xs) [] zs p q le = absurd (omega arith)
prefix_shorter (x ∷ xs) (y ∷ ys) [] p q le = absurd (cc (p.1))
prefix_shorter (x ∷ xs) (y ∷ ys) (z ∷ zs) p q le =
    let heads : x ≡ y = cc (p.1, q.1) in
    let rest = prefix_shorter xs ys zs (p.0, cc (p.1)) (q.0, cc (q.1)) (omega arith) in
    (rest.0, cc (heads, rest.1))

-- a beginning as long as the whole is the whole
pub prefix_whole : {A : Type 0} (xs ys : List A) → IsPrefix xs ys → length ys ≤ length xs → xs ≡ ys
prefix_whole [] [] p le = refl
prefix_whole [] (y ∷ ys) p le = absurd (omega arith)
prefix_whole (x ∷ xs) [] p le = absurd (cc (p.1))
prefix_whole (x ∷ xs) (y ∷ ys) p le =
    let rest = prefix_whole xs ys (p.0, cc (p.1)) (omega arith) in cc (p.1, rest)

pub prefix_length : {A : Type 0} (xs ys : List A) → IsPrefix xs ys → length xs ≤ length ys
prefix_length xs ys p = omega (arith, sym (ap length p.1) ∙ length-append xs p.0)

-- a beginning begins what is one longer too
pub prefix_more : {A : Type 0} (xs ys : List A) (e : A) → IsPrefix xs ys → IsPrefix xs (ys ++ e ∷ [])
prefix_more xs ys e p = (p.0 ++ e ∷ [], sym (append_assoc xs p.0 (e ∷ [])) ∙ ap (λ w. w ++ e ∷ []) p.1)

pub long_left : {E : Type 0} (xs ys : List E) → length xs ≤ length (longer xs ys)
long_left {E} xs ys = elim (dec_le (length ys) (length xs)) [
  | yes h ↦ subst (λ (b : Bool). length xs ≤ length (if b then ys else xs)) (sym (le-ltb (length xs) (length ys) h)) (omega arith)
  | no h ↦ let lt = lt_of_not-le h in subst (λ (b : Bool). length xs ≤ length (if b then ys else xs)) (sym (lt-ltb (length xs) (length ys) lt)) (omega arith)
]

pub long_right : {E : Type 0} (xs ys : List E) → length ys ≤ length (longer xs ys)
long_right {E} xs ys = elim (dec_le (length ys) (length xs)) [
  | yes h ↦ subst (λ (b : Bool). length ys ≤ length (if b then ys else xs)) (sym (le-ltb (length xs) (length ys) h)) h
  | no h ↦ let lt = lt_of_not-le h in subst (λ (b : Bool). length ys ≤ length (if b then ys else xs)) (sym (lt-ltb (length xs) (length ys) lt)) (omega arith)
]
