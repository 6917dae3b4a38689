-- What is read takes its bytes, so a list is no longer than the bytes that it was read from.
use Rattle.std.proofs.Common.{◌≡◌, ℕ, suc, ◌+◌, ◌≤◌, Bool, true, false, cond, List, [], ◌∷◌, length, take, drop, Option, Some, None, Result, Ok, Err, refl, ap, subst, arith}
use Rattle.std.specs.Prelude.{nat_lt, IfSome}
use Rattle.std.specs.Int.{Width, byte_len}
use Rattle.std.proofs.lemmas.Bool.{ltb-false}
use Rattle.std.proofs.lemmas.List.{length-drop, length-append, take-append-drop}
use Rattle.std.specs.List.{All}
use Rattle.std.proofs.lemmas.List.Elements.{All-nil, All-cons, All-weaker}
use Rattle.iso_boxes.specs.Reading.{Reading, goes_on, ◌>>=◌, yield, broken, whole, number, number24, signed, some_bytes, given, all_of, within, repeated, one_each}
use Rattle.iso_boxes.proofs.Repeating.{counted}

-- what is read has at most as many parts as it takes bytes
pub record Bounded {E A : Type 0} (size : A → ℕ) (r : Reading E A) : Type 0 where
  pub bound : (bytes : List ℕ) (x : A) (after : List ℕ) → r bytes ≡ Ok (x, after) → size x + length after ≤ length bytes

abbrev pub nothing : {A : Type 0} → A → ℕ
nothing x = 0

abbrev pub one : {A : Type 0} → A → ℕ
one x = 1

parts_of : {E A B : Type 0} (r : Result (A × B) E) (x y : A × B) → r ≡ Ok x → r ≡ Ok y → (x.0 ≡ y.0) × (x.1 ≡ y.1)
parts_of {A = A} {B = B} r x y d e =
    let p : x ≡ y = cc in
    (ap (λ (z : A × B). z.0) p, ap (λ (z : A × B). z.1) p)

whole_at : {E A : Type 0} (c : Bool) (n : ℕ) (v : A) (e : E) (bytes : List ℕ) (x : A) (after : List ℕ) → (c ≡ false → n ≤ length bytes) → whole e (cond c None (Some (v, drop n bytes))) ≡ Ok (x, after) → n + length after ≤ length bytes
whole_at true n v e bytes x after le h = absurd cc
whole_at false n v e bytes x after le h =
    let p = parts_of _ (v, drop n bytes) (x, after) refl h in
    let low = le refl in
    omega (arith, length-drop n bytes, ap length p.1)

taken_at : {E : Type 0} (c : Bool) (n : ℕ) (e : E) (bytes x after : List ℕ) → whole e (cond c None (Some (take n bytes, drop n bytes))) ≡ Ok (x, after) → length x + length after ≤ length bytes
taken_at true n e bytes x after h = absurd cc
taken_at false n e bytes x after h =
    let p = parts_of _ (take n bytes, drop n bytes) (x, after) refl h in
    omega (arith, ap length (take-append-drop n bytes), length-append (take n bytes) (drop n bytes), ap length p.0, ap length p.1)

pub number_takes : {E : Type 0} (e : E) (w : Width) (k : ℕ) → k ≤ byte_len w → Bounded {E = E} {A = ℕ} (λ x. k) (number e w)
number_takes e w k low = record {
  bound = λ bytes x after h.
      let taken = whole_at (nat_lt (length bytes) (byte_len w)) (byte_len w) _ e bytes x after (ltb-false (length bytes) (byte_len w)) h in
      omega (arith, taken, low);
}

pub number24_takes : {E : Type 0} (e : E) → Bounded {E = E} {A = ℕ} nothing (number24 e)
number24_takes e = record {
  bound = λ bytes x after h.
      let taken = whole_at (nat_lt (length bytes) 3) 3 _ e bytes x after (ltb-false (length bytes) 3) h in
      omega (arith, taken);
}

pub signed_takes : {E : Type 0} (e : E) → Bounded {E = E} nothing (signed e)
signed_takes e = record {
  bound = λ bytes x after h.
      let taken = whole_at (nat_lt (length bytes) 4) 4 _ e bytes x after (ltb-false (length bytes) 4) h in
      omega (arith, taken);
}

pub bytes_take : {E : Type 0} (e : E) (n : ℕ) → Bounded {E = E} {A = List ℕ} nothing (some_bytes e n)
bytes_take e n = record {
  bound = λ bytes x after h.
      let taken = whole_at (nat_lt (length bytes) n) n _ e bytes x after (ltb-false (length bytes) n) h in
      omega (arith, taken);
}

-- n bytes are n parts
pub bytes_taken : {E : Type 0} (e : E) (n : ℕ) → Bounded {E = E} {A = List ℕ} length (some_bytes e n)
bytes_taken e n = record { bound = λ bytes x after h. taken_at (nat_lt (length bytes) n) n e bytes x after h }

pub yield_takes : {E A : Type 0} (size : A → ℕ) (x : A) → size x ≡ 0 → Bounded {E = E} size (yield x)
yield_takes size x none = record {
  bound = λ bytes y after h.
      let p = parts_of _ (x, bytes) (y, after) refl h in
      omega (arith, none, ap size p.0, ap length p.1);
}

pub broken_takes : {E A : Type 0} (size : A → ℕ) (e : E) → Bounded {E = E} {A = A} size (broken e)
broken_takes size e = record { bound = λ bytes y after h. absurd cc }

bind_at : {E A B : Type 0} (j : ℕ) (size size' : B → ℕ) (read : Result (A × List ℕ) E) (f : A → Reading E B) (bytes : List ℕ) → ((x : A) (after : List ℕ) → read ≡ Ok (x, after) → j + length after ≤ length bytes)
    → ((x : A) → Bounded size (f x)) → ((y : B) → size' y ≤ j + size y) → (y : B) (after : List ℕ) → goes_on read f ≡ Ok (y, after) → size' y + length after ≤ length bytes
bind_at j size size' (Ok x) f bytes first rest le y after h =
    let a = first x.0 x.1 refl in
    let b = (rest x.0).bound x.1 y after h in
    let l = le y in
    omega (arith, a, b, l)
bind_at j size size' (Err e) f bytes first rest le y after h = absurd cc

pub bind_takes : {E A B : Type 0} (j : ℕ) (size size' : B → ℕ) (r : Reading E A) (f : A → Reading E B) → Bounded (λ x. j) r → ((x : A) → Bounded size (f x)) → ((y : B) → size' y ≤ j + size y) → Bounded size' (r >>= f)
bind_takes j size size' r f first rest le = record { bound = λ bytes y after h. bind_at j size size' (r bytes) f bytes (first.bound bytes) rest le y after h }

-- one more field in front
pub field_then : {E A B : Type 0} (size : B → ℕ) (r : Reading E A) (f : A → Reading E B) → Bounded nothing r → ((x : A) → Bounded size (f x)) → Bounded size (r >>= f)
field_then size r f first rest = bind_takes 0 size size r f first rest (λ y. omega arith)

named_at : {E A B : Type 0} (size : A → ℕ) (size' : B → ℕ) (read : Result (A × List ℕ) E) (f : A → B) (bytes : List ℕ) → ((x : A) (after : List ℕ) → read ≡ Ok (x, after) → size x + length after ≤ length bytes)
    → ((x : A) → size' (f x) ≡ size x) → (y : B) (after : List ℕ) → goes_on read (λ x. yield (f x)) ≡ Ok (y, after) → size' y + length after ≤ length bytes
named_at size size' (Ok x) f bytes taken same y after h =
    let p = parts_of _ (f x.0, x.1) (y, after) refl h in
    let t = taken x.0 x.1 refl in
    omega (arith, t, same x.0, ap size' p.0, ap length p.1)
named_at size size' (Err e) f bytes taken same y after h = absurd cc

-- a list that is put into a record
pub named_takes : {E A B : Type 0} (size : A → ℕ) (size' : B → ℕ) (r : Reading E A) (f : A → B) → Bounded size r → ((x : A) → size' (f x) ≡ size x) → Bounded size' (r >>= λ x. yield (f x))
named_takes size size' r f taken same = record { bound = λ bytes y after h. named_at size size' (r bytes) f bytes (taken.bound bytes) same y after h }

abbrev pub in_some : {A : Type 0} → (A → ℕ) → Option A → ℕ
in_some size None = 0
in_some size (Some x) = size x

pub given_takes : {E A : Type 0} (size : A → ℕ) (b : Bool) (r : Reading E A) → Bounded size r → Bounded (in_some size) (given b r)
given_takes size true r taken = named_takes size (in_some size) r (λ x. Some x) taken (λ x. refl)
given_takes size false r taken = yield_takes (in_some size) None refl

no_size : {A : Type 0} (o : Option A) → in_some nothing o ≡ 0
no_size None = refl
no_size (Some x) = refl

pub weaker : {E A : Type 0} (size size' : A → ℕ) (r : Reading E A) → Bounded size r → ((x : A) → size' x ≤ size x) → Bounded size' r
weaker size size' r taken le = record {
  bound = λ bytes x after h.
      let t = taken.bound bytes x after h in
      let l = le x in
      omega (arith, t, l);
}

pub given_nothing : {E A : Type 0} (b : Bool) (r : Reading E A) → Bounded nothing r → Bounded nothing (given b r)
given_nothing b r taken = weaker (in_some nothing) nothing (given b r) (given_takes nothing b r taken) (λ o. omega (arith, no_size o))

-- one where a test holds
abbrev pub one_if : Bool → ℕ
one_if c = cond c 1 0

pub given_one : {E A : Type 0} (c : Bool) (r : Reading E A) → Bounded one r → Bounded (λ o. one_if c) (given c r)
given_one true r taken = named_takes one one r (λ x. Some x) taken (λ x. refl)
given_one false r taken = yield_takes nothing None refl

pub choice_takes : {E A : Type 0} (size : A → ℕ) (c : Bool) (r s : Reading E A) → Bounded size r → Bounded size s → Bounded size (cond c r s)
choice_takes size true r s p q = p
choice_takes size false r s p q = q

-- as many as were asked for, of a byte at least each
pub repeated_takes : {E A : Type 0} (n : ℕ) (r : Reading E A) → Bounded one r → Bounded length (repeated n r)
repeated_takes n r taken = record {
  bound = λ bytes x after h.
      let c = counted r 1 (λ front y rest e. let t = taken.bound front y rest e in omega (arith, t)) n bytes (x, after) h in
      omega (arith, c.many, c.taken);
}

all_of_at : {E A : Type 0} (part : List ℕ) (read : Result (A × List ℕ) E) (bytes : List ℕ) → ((x : A) (after : List ℕ) → read ≡ Ok (x, after) → 1 + length after ≤ length part)
    → (x : A) (after : List ℕ) → all_of read bytes ≡ Ok (x, after) → 1 + length after ≤ length part + length bytes
all_of_at part (Ok y) bytes taken x after h =
    let p = parts_of _ (y.0, bytes) (x, after) refl h in
    let t = taken y.0 y.1 refl in
    omega (arith, t, ap length p.1)
all_of_at part (Err e) bytes taken x after h = absurd cc

within_at : {E A : Type 0} (r : Reading E A) → Bounded one r → (read : Result (List ℕ × List ℕ) E) (bytes : List ℕ) → ((x after : List ℕ) → read ≡ Ok (x, after) → length x + length after ≤ length bytes)
    → (x : A) (after : List ℕ) → goes_on read (λ part. all_of (r part)) ≡ Ok (x, after) → 1 + length after ≤ length bytes
within_at r taken (Ok part) bytes cut x after h =
    let t = all_of_at part.0 (r part.0) part.1 (taken.bound part.0) x after h in
    let c = cut part.0 part.1 refl in
    omega (arith, t, c)
within_at r taken (Err e) bytes cut x after h = absurd cc

pub within_takes : {E A : Type 0} (e : E) (n : ℕ) (r : Reading E A) → Bounded one r → Bounded one (within e n r)
within_takes e n r taken = record { bound = λ bytes x after h. within_at r taken (some_bytes e n bytes) bytes ((bytes_taken e n).bound bytes) x after h }

-- of several that are read one after the other, each is no larger than all the bytes
abbrev EachFew : {A : Type 0} → (A → ℕ) → ℕ → ℕ → List A → Type 0
EachFew size n many xs = All (λ x. size x ≤ n) xs × (length xs ≡ many)

each_rest : {E A : Type 0} (size : A → ℕ) (y : A) (read : Result (List A × List ℕ) E) (bytes mid : List ℕ) (many : ℕ) → size y + length mid ≤ length bytes
    → ((xs : List A) (after : List ℕ) → read ≡ Ok (xs, after) → EachFew size (length mid) many xs)
    → (xs : List A) (after : List ℕ) → goes_on read (λ (ys : List A). yield (y ∷ ys)) ≡ Ok (xs, after) → EachFew size (length bytes) (suc many) xs
each_rest {A = A} size y (Ok ys) bytes mid many t more xs after h =
    let p = parts_of _ (y ∷ ys.0, ys.1) (xs, after) refl h in
    let m = more ys.0 ys.1 refl in
    let kept = All-weaker (λ x. size x ≤ length mid) (λ x. size x ≤ length bytes) (λ x le. omega (arith, le, t)) ys.0 m.0 in
    subst (EachFew size (length bytes) (suc many)) p.0 (All-cons (λ x. size x ≤ length bytes) y ys.0 (omega (arith, t)) kept, ap suc m.1)
each_rest size y (Err e) bytes mid many t more xs after h = absurd cc

each_first : {E A : Type 0} (size : A → ℕ) (read : Result (A × List ℕ) E) (rest : Reading E (List A)) (bytes : List ℕ) (many : ℕ) → ((x : A) (after : List ℕ) → read ≡ Ok (x, after) → size x + length after ≤ length bytes)
    → ((mid : List ℕ) (xs : List A) (after : List ℕ) → rest mid ≡ Ok (xs, after) → EachFew size (length mid) many xs)
    → (xs : List A) (after : List ℕ) → goes_on read (λ (x : A) (mid : List ℕ). goes_on (rest mid) (λ (ys : List A). yield (x ∷ ys))) ≡ Ok (xs, after) → EachFew size (length bytes) (suc many) xs
each_first size (Ok y) rest bytes many taken more xs after h = each_rest size y.0 (rest y.1) bytes y.1 many (taken y.0 y.1 refl) (more y.1) xs after h
each_first size (Err e) rest bytes many taken more xs after h = absurd cc

pub each_few : {E A B : Type 0} (size : A → ℕ) (r : B → Reading E A) → ((b : B) → Bounded size (r b)) → (bs : List B) (bytes : List ℕ) (xs : List A) (after : List ℕ) → one_each r bs bytes ≡ Ok (xs, after) → All (λ x. size x ≤ length bytes) xs × (length xs ≡ length bs)
unfolding one_each
each_few size r taken [] bytes xs after h =
    let p = parts_of _ ([], bytes) (xs, after) refl h in
    subst (EachFew size (length bytes) 0) p.0 (All-nil (λ x. size x ≤ length bytes), refl)
each_few size r taken (b ∷ bs) bytes xs after h = each_first size (r b bytes) (one_each r bs) bytes (length bs) ((taken b).bound bytes) (each_few size r taken bs) xs after h

-- what holds of all that is read from so many bytes
pub record Says {E A : Type 0} (P : ℕ → A → Type 0) (r : Reading E A) : Type 0 where
  pub says : (bytes : List ℕ) (x : A) (after : List ℕ) → r bytes ≡ Ok (x, after) → P (length bytes) x

then_at : {E A B : Type 0} (P : ℕ → B → Type 0) (read : Result (A × List ℕ) E) (f : A → Reading E B) (bytes : List ℕ) → ((n m : ℕ) (y : B) → n ≤ m → P n y → P m y)
    → ((x : A) (after : List ℕ) → read ≡ Ok (x, after) → 0 + length after ≤ length bytes) → ((x : A) → Says P (f x)) → (y : B) (after : List ℕ) → goes_on read f ≡ Ok (y, after) → P (length bytes) y
then_at P (Ok x) f bytes grows first rest y after h =
    let t = first x.0 x.1 refl in
    grows (length x.1) (length bytes) y (omega (arith, t)) ((rest x.0).says x.1 y after h)
then_at P (Err e) f bytes grows first rest y after h = absurd cc

pub then_says : {E A B : Type 0} (P : ℕ → B → Type 0) (r : Reading E A) (f : A → Reading E B) → ((n m : ℕ) (y : B) → n ≤ m → P n y → P m y) → Bounded nothing r → ((x : A) → Says P (f x)) → Says P (r >>= f)
then_says P r f grows first rest = record { says = λ bytes y after h. then_at P (r bytes) f bytes grows (first.bound bytes) rest y after h }

called_at : {E A B : Type 0} (P : ℕ → A → Type 0) (Q : ℕ → B → Type 0) (read : Result (A × List ℕ) E) (f : A → B) (n : ℕ) → ((x : A) (after : List ℕ) → read ≡ Ok (x, after) → P n x) → ((x : A) → P n x → Q n (f x))
    → (y : B) (after : List ℕ) → goes_on read (λ x. yield (f x)) ≡ Ok (y, after) → Q n y
called_at P Q (Ok x) f n one_is same y after h =
    let p = parts_of _ (f x.0, x.1) (y, after) refl h in
    subst (Q n) p.0 (same x.0 (one_is x.0 x.1 refl))
called_at P Q (Err e) f n one_is same y after h = absurd cc

pub called_says : {E A B : Type 0} (P : ℕ → A → Type 0) (Q : ℕ → B → Type 0) (r : Reading E A) (f : A → B) → Says P r → ((n : ℕ) (x : A) → P n x → Q n (f x)) → Says Q (r >>= λ x. yield (f x))
called_says P Q r f told same = record { says = λ bytes y after h. called_at P Q (r bytes) f (length bytes) (told.says bytes) (same (length bytes)) y after h }

pub choice_says : {E A : Type 0} (P : ℕ → A → Type 0) (c : Bool) (r s : Reading E A) → Says P r → Says P s → Says P (cond c r s)
choice_says P true r s p q = p
choice_says P false r s p q = q

pub broken_says : {E A : Type 0} (P : ℕ → A → Type 0) (e : E) → Says {E = E} {A = A} P (broken e)
broken_says P e = record { says = λ bytes y after h. absurd cc }

pub few_of : (n m k : ℕ) → n + m ≤ k → n ≤ k
few_of n m k le = omega arith

pub few_in : {A : Type 0} (size : A → ℕ) (o : Option A) (m k : ℕ) → in_some size o + m ≤ k → IfSome o (λ x. size x ≤ k)
few_in size None m k le = tt
few_in size (Some x) m k le = omega arith
