-- A box that was written is read again.
use Rattle.std.proofs.Common.{◌≡◌, ℕ, ◌+◌, ◌-◌, ◌^◌, ◌<◌, ◌≤◌, Bool, false, ltb, List, ◌++◌, length, take, drop, Some, Ok, refl, ◌∙◌, arith, append_assoc}
use Rattle.std.specs.Prelude.{◌==◌}
use Rattle.std.specs.Int.{w32, from_be_bytes, to_be_bytes}
use Rattle.std.proofs.lemmas.Bool.{le-ltb}
use Rattle.std.proofs.lemmas.List.{take_at, drop_at, length-append}
use Rattle.std.proofs.lemmas.Nat.{from_be_bytes-to_be_bytes_4}
use Rattle.iso_boxes.specs.Walk.{Found, Left, before, lengths, first_box, next_box, after_next, walk}
use Rattle.iso_boxes.specs.Writing.{boxed}
use Rattle.iso_boxes.proofs.Walking.{goes_on}

-- the box that these four lists make
abbrev box_of : List ℕ → List ℕ → ℕ → Found
box_of kind body place = record { kind = kind; place = place; body = body; body_place = place + 8 }

-- a number above 1 is neither of the sizes with a meaning of their own
plain : (n : ℕ) → 8 ≤ n → ((n == 1) ≡ false) × ((n == 0) ≡ false)
plain n le = (grind arith, grind arith)

first_again : (head kind body after : List ℕ) (place : ℕ) (top : Bool) → length head ≡ 4 → length kind ≡ 4 → from_be_bytes w32 head ≡ 8 + length body
    → first_box ((head ++ (kind ++ body)) ++ after) place top ≡ Ok (box_of kind body place, after)
unfolding first_box lengths
first_again head kind body after place top h4 k4 size =
    let flat : (head ++ (kind ++ body)) ++ after ≡ head ++ (kind ++ (body ++ after)) = simp append_assoc in
    let total : length (head ++ (kind ++ (body ++ after))) ≡ 8 + length body + length after = omega (arith, length-append head (kind ++ (body ++ after)), length-append kind (body ++ after), length-append body after) in
    let n = 8 + length body in
    let long : ltb (8 + length body + length after) 8 ≡ false = le-ltb _ _ (omega arith) in
    let inside : ltb (8 + length body + length after) (8 + length body) ≡ false = le-ltb _ _ (omega arith) in
    let header : ltb (8 + length body) 8 ≡ false = le-ltb _ _ (omega arith) in
    let front : take 4 (head ++ (kind ++ (body ++ after))) ≡ head = take_at head _ 4 h4 in
    let behind : drop 4 (head ++ (kind ++ (body ++ after))) ≡ kind ++ (body ++ after) = drop_at head _ 4 h4 in
    let named : take 4 (kind ++ (body ++ after)) ≡ kind = take_at kind _ 4 k4 in
    let size_8 : length (head ++ kind) ≡ 8 = omega (arith, length-append head kind) in
    let whole : head ++ (kind ++ (body ++ after)) ≡ (head ++ (kind ++ body)) ++ after = simp append_assoc in
    let size_n : length (head ++ (kind ++ body)) ≡ 8 + length body = omega (arith, length-append head (kind ++ body), length-append kind body) in
    let cut_n : take (8 + length body) (head ++ (kind ++ (body ++ after))) ≡ head ++ (kind ++ body) = rw whole (take_at (head ++ (kind ++ body)) after _ size_n) in
    let rest : drop (8 + length body) (head ++ (kind ++ (body ++ after))) ≡ after = rw whole (drop_at (head ++ (kind ++ body)) after _ size_n) in
    let split : head ++ (kind ++ body) ≡ (head ++ kind) ++ body = simp append_assoc in
    let inner : drop 8 (head ++ (kind ++ body)) ≡ body = rw split (drop_at (head ++ kind) body 8 size_8) in
    let tests = plain (8 + length body) (omega arith) in
    rw (flat, total, long, front, size, tests.0, tests.1, header, total, inside, behind, named, cut_n, rest, inner) refl

next_again : (w : Left) (x : Found × List ℕ) → 8 ≤ length w.bytes → first_box w.bytes w.place w.top ≡ Ok x
    → (next_box w ≡ Ok (Some x.0)) × (after_next w ≡ record w { bytes = x.1; place = w.place + (length w.bytes - length x.1) })
unfolding next_box after_next
next_again w x long e =
    let some : (length w.bytes == 0) ≡ false = (plain (length w.bytes) long).1 in
    (rw (some, e) refl, rw (some, e) refl)

pub written_again : (kind body after : List ℕ) (place : ℕ) (top : Bool) → length kind ≡ 4 → 8 + length body < 2 ^ 32
    → walk (boxed kind body ++ after) place top ≡ before (record { kind = kind; place = place; body = body; body_place = place + 8 }) (walk after (place + (8 + length body)) top)
unfolding walk boxed
written_again kind body after place top k4 fits =
    let head = to_be_bytes w32 (8 + length body) in
    let w : Left = record { bytes = (to_be_bytes w32 (8 + length body) ++ (kind ++ body)) ++ after; place = place; top = top } in
    let size : length ((to_be_bytes w32 (8 + length body) ++ (kind ++ body)) ++ after) ≡ 8 + length body + length after = omega (arith, length-append (to_be_bytes w32 (8 + length body) ++ (kind ++ body)) after, length-append (to_be_bytes w32 (8 + length body)) (kind ++ body), length-append kind body) in
    let first = first_again (to_be_bytes w32 (8 + length body)) kind body after place top refl k4 (from_be_bytes-to_be_bytes_4 (8 + length body) fits) in
    let next = next_again w (box_of kind body place, after) (omega arith) first in
    let moved : place + (length ((to_be_bytes w32 (8 + length body) ++ (kind ++ body)) ++ after) - length after) ≡ place + (8 + length body) = omega arith in
    goes_on w ∙ rw (next.0, next.1, moved) refl
