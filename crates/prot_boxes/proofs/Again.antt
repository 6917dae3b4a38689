-- What was written is read again.
use Rattle.std.proofs.Common.{◌≡◌, ◌↔◌, ℕ, suc, ◌+◌, ◌%◌, ◌^◌, ◌<◌, ◌≤◌, false, ltb, List, [], ◌∷◌, ◌++◌, length, drop, Result, Ok, Err, OnOk, refl, ap, arith, append_assoc, append-nil}
use Rattle.std.specs.Prelude.{IsErrOf, map}
use Rattle.std.specs.List.{All, flat_map}
use Rattle.std.specs.Int.{Width, w8, w16, w32, w64, byte_len, from_be_bytes, to_be_bytes}
use Rattle.std.proofs.lemmas.Bool.{le-ltb}
use Rattle.std.proofs.lemmas.List.{take_at, drop_at, length-append}
use Rattle.std.proofs.lemmas.List.Elements.{All-head, All-tail}
use Rattle.std.proofs.lemmas.Nat.{from_be_bytes-to_be_bytes_2, from_be_bytes-to_be_bytes_4, from_be_bytes-to_be_bytes_8}
use Rattle.iso_boxes.specs.declared.writing.PutFault.{PutFault}
use Rattle.iso_boxes.specs.declared.writing.PutFault.TheVariants.{TooLong}
use Rattle.iso_boxes.specs.Reading.{Reading, number, number24, some_bytes, repeated, one_each}
use Rattle.iso_boxes.specs.Children.{placed}
use Rattle.prot_boxes.specs.declared.fault.ProtKind.{ProtKind}
use Rattle.iso_boxes.specs.Walk.{Found}
use Rattle.prot_boxes.specs.declared.fault.ProtFault.{ProtFault}
use Rattle.iso_boxes.specs.Writing.{boxed}
use Rattle.iso_boxes.proofs.WrittenAgain.{written_again}
use Rattle.prot_boxes.specs.Answers.{fault_at, IsReadAgain}

number_again : {E : Type 0} (e : E) (w : Width) (bs rest : List ℕ) (n : ℕ) → length bs ≡ byte_len w → from_be_bytes w bs ≡ n → number e w (bs ++ rest) ≡ Ok (n, rest)
number_again e w bs rest n len value =
    let long : ltb (length (bs ++ rest)) (byte_len w) ≡ false = le-ltb _ _ (omega (arith, length-append bs rest)) in
    rw (long, take_at bs rest (byte_len w) len, drop_at bs rest (byte_len w) len, value) refl

pub u8_again : {E : Type 0} (e : E) (b : ℕ) (rest : List ℕ) → number e w8 (b ∷ rest) ≡ Ok (b, rest)
u8_again e b rest =
    let long : ltb (suc (length rest)) 1 ≡ false = le-ltb _ _ (omega arith) in
    rw long refl

pub u16_again : {E : Type 0} (e : E) (n : ℕ) (rest : List ℕ) → n < 2 ^ 16 → number e w16 (to_be_bytes w16 n ++ rest) ≡ Ok (n, rest)
u16_again e n rest lt = number_again e w16 (to_be_bytes w16 n) rest n refl (from_be_bytes-to_be_bytes_2 n lt)

pub u32_again : {E : Type 0} (e : E) (n : ℕ) (rest : List ℕ) → n < 2 ^ 32 → number e w32 (to_be_bytes w32 n ++ rest) ≡ Ok (n, rest)
u32_again e n rest lt = number_again e w32 (to_be_bytes w32 n) rest n refl (from_be_bytes-to_be_bytes_4 n lt)

pub u64_again : {E : Type 0} (e : E) (n : ℕ) (rest : List ℕ) → n < 2 ^ 64 → number e w64 (to_be_bytes w64 n ++ rest) ≡ Ok (n, rest)
u64_again e n rest lt = number_again e w64 (to_be_bytes w64 n) rest n refl (from_be_bytes-to_be_bytes_8 n lt)

pub zero_again : {E : Type 0} (e : E) (rest : List ℕ) → number e w32 (0 ∷ 0 ∷ 0 ∷ 0 ∷ rest) ≡ Ok (0, rest)
zero_again e rest = number_again e w32 (0 ∷ 0 ∷ 0 ∷ 0 ∷ []) rest 0 refl refl

-- a count that fits is not cut
pub small : (n : ℕ) → n < 2 ^ 32 → n % 2 ^ 32 ≡ n
small n lt = omega arith

-- flags below 256
pub flags_again : {E : Type 0} (e : E) (f : ℕ) (rest : List ℕ) → from_be_bytes w32 (0 ∷ 0 ∷ 0 ∷ f ∷ []) ≡ f → number24 e (0 ∷ 0 ∷ f ∷ rest) ≡ Ok (f, rest)
flags_again e f rest value =
    let long : ltb (suc (suc (suc (length rest)))) 3 ≡ false = le-ltb _ _ (omega arith) in
    rw (long, value) refl

pub bytes_again : {E : Type 0} (e : E) (n : ℕ) (xs rest : List ℕ) → length xs ≡ n → some_bytes e n (xs ++ rest) ≡ Ok (xs, rest)
bytes_again e n xs rest len =
    let long : ltb (length (xs ++ rest)) n ≡ false = le-ltb _ _ (omega (arith, length-append xs rest)) in
    rw (long, take_at xs rest n len, drop_at xs rest n len) refl

-- ---- lists

abbrev pub IsAgain : {E A : Type 0} → Reading E A → List ℕ → A → Type 0
IsAgain r body x = (rest : List ℕ) → r (body ++ rest) ≡ Ok (x, rest)

pub repeated_again : {E A : Type 0} (r : Reading E A) (body : A → List ℕ) (xs : List A) → All (λ x. IsAgain r (body x) x) xs → (rest : List ℕ) → repeated (length xs) r (flat_map body xs ++ rest) ≡ Ok (xs, rest)
unfolding repeated
repeated_again r body [] all rest = refl
repeated_again r body (x ∷ xs) all rest =
    let flat : (body x ++ flat_map body xs) ++ rest ≡ body x ++ (flat_map body xs ++ rest) = simp append_assoc in
    let here = All-head (λ y. IsAgain r (body y) y) x xs all (flat_map body xs ++ rest) in
    let more = repeated_again r body xs (All-tail (λ y. IsAgain r (body y) y) x xs all) rest in
    rw (flat, here, more) refl

pub one_each_again : {E A B : Type 0} (r : B → Reading E A) (key : A → B) (body : A → List ℕ) (xs : List A) → All (λ x. IsAgain (r (key x)) (body x) x) xs → (rest : List ℕ)
    → one_each r (map key xs) (flat_map body xs ++ rest) ≡ Ok (xs, rest)
unfolding one_each
one_each_again r key body [] all rest = refl
one_each_again r key body (x ∷ xs) all rest =
    let flat : (body x ++ flat_map body xs) ++ rest ≡ body x ++ (flat_map body xs ++ rest) = simp append_assoc in
    let here = All-head (λ y. IsAgain (r (key y)) (body y) y) x xs all (flat_map body xs ++ rest) in
    let more = one_each_again r key body xs (All-tail (λ y. IsAgain (r (key y)) (body y) y) x xs all) rest in
    rw (flat, here, more) refl

-- ---- boxes

pub boxed_length : (kind body : List ℕ) → length kind ≡ 4 → length (boxed kind body) ≡ 8 + length body
unfolding boxed
boxed_length kind body k4 = omega (arith, length-append (to_be_bytes w32 (8 + length body)) (kind ++ body), length-append kind body)

abbrev pub box_of : List ℕ → List ℕ → ℕ → Found
box_of kind body place = record { kind = kind; place = place; body = body; body_place = place + 8 }

read_again : {X : Type 0} (read : Found → Result X ProtFault) (kind body old new : List ℕ) (x : X) → new ≡ old ++ boxed kind body → length kind ≡ 4 → 8 + length body < 2 ^ 32
    → ((place : ℕ) → read (box_of kind body place) ≡ Ok x) → IsReadAgain read old new x
read_again read kind body old new x e k4 fits reads after base top =
    let tail : drop (length old) new ≡ boxed kind body = rw e (drop_at old (boxed kind body) (length old) refl) in
    let size : base + length new ≡ base + length old + (8 + length body) = omega (arith, ap length e, length-append old (boxed kind body), boxed_length kind body k4) in
    (box_of kind body (base + length old), (rw (tail, size) (written_again kind body after (base + length old) top k4 fits), (refl, reads (base + length old))))

below : (n : ℕ) → (2 ^ 32 ≤ n → ⊥) → n < 2 ^ 32
below n h = grind arith

no_fault : {U : Type 0} (u : U) (f : PutFault) → Ok u ≡ Err f → ⊥
no_fault u f e = absurd cc

-- what a writer appended is read again
pub box_again : {C X U : Type 0} (r : Result U PutFault) (read : Found → Result X ProtFault) (kind body old new : List ℕ) (x : X)
    → OnOk r (new ≡ old ++ boxed kind body) → IsErrOf r TooLong ↔ (2 ^ 32 ≤ 8 + length body) → length kind ≡ 4
    → (C → 8 + length body < 2 ^ 32 → (place : ℕ) → read (box_of kind body place) ≡ Ok x) → OnOk r (C → IsReadAgain read old new x)
box_again (Ok u) read kind body old new x e long k4 reads =
    let fits = below (8 + length body) (λ h. no_fault u TooLong (long.1 h)) in
    λ canonical. read_again read kind body old new x e k4 fits (reads canonical fits)
box_again (Err f) read kind body old new x e long k4 reads = tt

pub fields_again : {C X U : Type 0} (r : Result U PutFault) (fields : Reading ProtKind X) (kind body old new : List ℕ) (x : X)
    → OnOk r (new ≡ old ++ boxed kind body) → IsErrOf r TooLong ↔ (2 ^ 32 ≤ 8 + length body) → length kind ≡ 4
    → (C → IsAgain fields body x) → OnOk r (C → IsReadAgain (λ b. placed (fault_at b.place) (fields b.body)) old new x)
fields_again r fields kind body old new x e long k4 reads = box_again r (λ b. placed (fault_at b.place) (fields b.body)) kind body old new x e long k4 (λ canonical fits place.
    let whole : fields body ≡ Ok (x, []) = rw append-nil at (reads canonical []) in
    rw whole refl)
