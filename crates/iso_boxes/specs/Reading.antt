-- Reading: what is found at the front of the bytes and the bytes behind it, or the first broken rule.
use Rattle.std.specs.Prelude.{ℕ, ℤ, zero, suc, Bool, true, false, not, ◌==◌, bit_and, List, [], ◌∷◌, Option, Some, None, Result, Ok, Err}
use Rattle.std.specs.Int.{Width}
use Rattle.iso_boxes.specs.Fields.{number_at, number24_at, signed_at, bytes_at}

-- a reader: what it finds at the front of the bytes and what is behind it, or the rule that is broken
abbrev pub Reading : Type 0 → Type 0 → Type 0
Reading E A = List ℕ → Result (A × List ℕ) E

-- the next reader goes on behind what was read, and knows it
abbrev pub goes_on : {E A B : Type 0} → Result (A × List ℕ) E → (A → Reading E B) → Result (B × List ℕ) E
goes_on (Ok x) f = f x.0 x.1
goes_on (Err e) f = Err e

-- one reader, and then another that knows what it read
infixl 10 ◌>>=◌
abbrev pub ◌>>=◌ : {E A B : Type 0} → Reading E A → (A → Reading E B) → Reading E B
r >>= f = λ bytes. goes_on (r bytes) f

-- the value that was read; no byte is taken
abbrev pub yield : {E A : Type 0} → A → Reading E A
yield x = λ bytes. Ok (x, bytes)

-- the rule e is broken
abbrev pub broken : {E A : Type 0} → E → Reading E A
broken e = λ bytes. Err e

-- a field that ends behind the bytes breaks the rule e
abbrev pub whole : {E A : Type 0} → E → Option (A × List ℕ) → Result (A × List ℕ) E
whole e None = Err e
whole e (Some x) = Ok x

-- a number of a width; e where the bytes end before
abbrev pub number : {E : Type 0} → E → Width → Reading E ℕ
number e w = λ bytes. whole e (number_at w bytes)

-- a number of 24 bits
abbrev pub number24 : {E : Type 0} → E → Reading E ℕ
number24 e = λ bytes. whole e (number24_at bytes)

-- a signed number of 32 bits
abbrev pub signed : {E : Type 0} → E → Reading E ℤ
signed e = λ bytes. whole e (signed_at bytes)

-- n bytes
abbrev pub some_bytes : {E : Type 0} → E → ℕ → Reading E (List ℕ)
some_bytes e n = λ bytes. whole e (bytes_at n bytes)

-- what stands only where a test holds
abbrev pub given : {E A : Type 0} → Bool → Reading E A → Reading E (Option A)
given true r = r >>= λ x. yield (Some x)
given false r = yield None

-- what another reader gave of a part, or the rule that it broke
abbrev pub all_of : {E A : Type 0} → Result (A × List ℕ) E → Reading E A
all_of (Ok x) = yield x.0
all_of (Err e) = broken e

-- read inside a part of n bytes; what is behind the fields in that part is passed over
abbrev pub within : {E A : Type 0} → E → ℕ → Reading E A → Reading E A
within e n r = some_bytes e n >>= λ part. all_of (r part)

-- one after the other
unfoldable pub repeated : {E A : Type 0} → ℕ → Reading E A → Reading E (List A)
repeated zero r = yield []
repeated (suc n) r = r >>= λ x. repeated n r >>= λ xs. yield (x ∷ xs)

-- a flag is set
abbrev pub has : ℕ → ℕ → Bool
has flag flags = not (bit_and flags flag == 0)

-- one for each item of a list, one after the other
unfoldable pub one_each : {E A B : Type 0} → (B → Reading E A) → List B → Reading E (List A)
one_each r [] = yield []
one_each r (b ∷ bs) = r b >>= λ x. one_each r bs >>= λ xs. yield (x ∷ xs)
