-- A pssh box that was written is read again.
use Rattle.std.proofs.Common.{◌≡◌, ℕ, suc, ◌+◌, ◌%◌, ◌^◌, ◌<◌, ◌≤◌, Bool, true, false, ltb, List, [], ◌∷◌, ◌++◌, length, drop, None, Result, Ok, Err, OnOk, refl, ap, ◌∙◌, arith, append_assoc, append-nil}
use Rattle.std.specs.Prelude.{◌==◌, nat_le, codes, flat_map}
use Rattle.std.specs.Int.{Width, w8, w32, byte_len, from_be_bytes, to_be_bytes}
use Rattle.std.proofs.lemmas.Bool.{le-ltb, lt-ltb, le-leb, eq-eqb, eqb-true}
use Rattle.std.proofs.lemmas.List.{take_at, drop_at, length-append}
use Rattle.std.proofs.lemmas.List.Elements.{All-head, All-tail}
use Rattle.std.proofs.lemmas.Nat.{from_be_bytes-to_be_bytes_4}
use Rattle.eme_types.specs.FirstFault.{read_each}
use Rattle.eme_types.specs.declared.limits.TheConstants.{MAX_INIT_DATA_BYTES}
use Rattle.iso_boxes.specs.declared.writing.PutFault.{PutFault}
use Rattle.iso_boxes.specs.Reading.{number, number24, some_bytes, repeated}
use Rattle.iso_boxes.specs.Walk.{Found, before, boxes_left, walk, walk_of}
use Rattle.iso_boxes.specs.Writing.{boxed}
use Rattle.iso_boxes.proofs.WrittenAgain.{written_again}
use Rattle.init_data.specs.declared.fault.InitFault.TheVariants.{Invalid}
use Rattle.init_data.specs.declared.pssh.Pssh.{Pssh}
use Rattle.init_data.specs.Pssh.{counted_kids, kids_at, content_at, pssh_of, pssh_in, gathered, pssh_list, listed_body, content_body, pssh_body, pssh_box, AreSixteen, IsCanonical, IsReadAgain}

-- ---- fields

number_again : (w : Width) (bs rest : List ℕ) (n : ℕ) → length bs ≡ byte_len w → from_be_bytes w bs ≡ n → number Invalid w (bs ++ rest) ≡ Ok (n, rest)
number_again w bs rest n len value =
    let long : ltb (length (bs ++ rest)) (byte_len w) ≡ false = le-ltb _ _ (omega (arith, length-append bs rest)) in
    rw (long, take_at bs rest (byte_len w) len, drop_at bs rest (byte_len w) len, value) refl

u8_again : (b : ℕ) (rest : List ℕ) → number Invalid w8 (b ∷ rest) ≡ Ok (b, rest)
u8_again b rest =
    let long : ltb (suc (length rest)) 1 ≡ false = le-ltb _ _ (omega arith) in
    rw long refl

u32_again : (n : ℕ) (rest : List ℕ) → n < 2 ^ 32 → number Invalid w32 (to_be_bytes w32 n ++ rest) ≡ Ok (n, rest)
u32_again n rest lt = number_again w32 (to_be_bytes w32 n) rest n refl (from_be_bytes-to_be_bytes_4 n lt)

flags_again : (rest : List ℕ) → number24 Invalid (0 ∷ 0 ∷ 0 ∷ rest) ≡ Ok (0, rest)
flags_again rest =
    let long : ltb (suc (suc (suc (length rest)))) 3 ≡ false = le-ltb _ _ (omega arith) in
    rw long refl

bytes_again : (n : ℕ) (xs rest : List ℕ) → length xs ≡ n → some_bytes Invalid n (xs ++ rest) ≡ Ok (xs, rest)
bytes_again n xs rest len =
    let long : ltb (length (xs ++ rest)) n ≡ false = le-ltb _ _ (omega (arith, length-append xs rest)) in
    rw (long, take_at xs rest n len, drop_at xs rest n len) refl

-- a count that fits is not cut
small : (n : ℕ) → n < 2 ^ 32 → n % 2 ^ 32 ≡ n
small n lt = omega arith

-- ---- key ids

abbrev itself : List ℕ → List ℕ
itself kid = kid

repeated_again : (kids : List (List ℕ)) → AreSixteen kids → (rest : List ℕ) → repeated (length kids) (some_bytes Invalid 16) (flat_map itself kids ++ rest) ≡ Ok (kids, rest)
unfolding repeated
repeated_again [] all rest = refl
repeated_again (kid ∷ kids) all rest =
    let flat : (kid ++ flat_map itself kids) ++ rest ≡ kid ++ (flat_map itself kids ++ rest) = append_assoc kid (flat_map itself kids) rest in
    let here = bytes_again 16 kid (flat_map itself kids ++ rest) (All-head (λ k. length k ≡ 16) kid kids all) in
    let more = repeated_again kids (All-tail (λ k. length k ≡ 16) kid kids all) rest in
    rw (flat, here, more) refl

counted_again : (kids : List (List ℕ)) (rest : List ℕ) → AreSixteen kids → length kids < 2 ^ 32
    → counted_kids ((to_be_bytes w32 (length kids % 2 ^ 32) ++ flat_map itself kids) ++ rest) ≡ Ok (kids, rest)
unfolding counted_kids
counted_again kids rest all few = rw (small (length kids) few, u32_again (length kids) (flat_map itself kids ++ rest) few, repeated_again kids all rest) refl

kids_by : (version : ℕ) (kids : List (List ℕ)) (rest : List ℕ) (zeroth : Bool) → (version == 0) ≡ zeroth → AreSixteen kids → (version ≡ 0 → kids ≡ []) → length kids < 2 ^ 32
    → kids_at version (listed_body version kids ++ rest) ≡ Ok (kids, rest)
kids_by version kids rest true e all plain few = rw (e, plain (eqb-true version 0 e)) refl
kids_by version kids rest false e all plain few = rw e (counted_again kids rest all few)

-- a key id has bytes
few_kids : (kids : List (List ℕ)) → AreSixteen kids → length kids ≤ length (flat_map itself kids)
few_kids [] all = omega arith
few_kids (kid ∷ kids) all =
    let here = All-head (λ k. length k ≡ 16) kid kids all in
    let more = few_kids kids (All-tail (λ k. length k ≡ 16) kid kids all) in
    omega (arith, here, more, length-append kid (flat_map itself kids))

few_listed : (version : ℕ) (kids : List (List ℕ)) (zeroth : Bool) → (version == 0) ≡ zeroth → AreSixteen kids → (version ≡ 0 → kids ≡ []) → length kids ≤ length (listed_body version kids)
few_listed version kids true e all plain = rw (e, plain (eqb-true version 0 e)) (omega arith)
few_listed version kids false e all plain =
    let few = few_kids kids all in
    rw e (omega (arith, few))

-- ---- the body

content_again : (content : List ℕ) → length content < 2 ^ 32 → content_at (content_body content) ≡ Ok content
content_again content few =
    let whole : (length content == length content) ≡ true = eq-eqb _ _ refl in
    rw (small (length content) few, u32_again (length content) content few, whole) refl

fields_again : (version : ℕ) (system listed after content : List ℕ) (kids : List (List ℕ)) → length system ≡ 16 → kids_at version (listed ++ after) ≡ Ok (kids, after) → content_at after ≡ Ok content
    → pssh_of (version ∷ 0 ∷ 0 ∷ 0 ∷ (system ++ (listed ++ after))) ≡ Ok (record { version = version; system = system; kids = kids; content = content })
unfolding pssh_of
fields_again version system listed after content kids len listed_is content_is =
    rw (
      u8_again version (0 ∷ 0 ∷ 0 ∷ (system ++ (listed ++ after))),
      flags_again (system ++ (listed ++ after)),
      bytes_again 16 system (listed ++ after) len,
      listed_is,
      content_is,
    ) refl

boxed_length : (p : Pssh) → length (pssh_box p) ≡ 8 + length (pssh_body p)
unfolding boxed
boxed_length p = omega (arith, length-append (to_be_bytes w32 (8 + length (pssh_body p))) (codes "pssh" ++ pssh_body p), length-append (codes "pssh") (pssh_body p))

parts_length : (p : Pssh) → length (listed_body p.version p.kids) + length p.content ≤ length (pssh_body p)
unfolding pssh_body
parts_length p =
    let l = length-append p.system (listed_body p.version p.kids ++ content_body p.content) in
    let m = length-append (listed_body p.version p.kids) (content_body p.content) in
    let n = length-append (to_be_bytes w32 (length p.content % 2 ^ 32)) p.content in
    omega (arith, l, m, n)

pssh_again : (p : Pssh) → IsCanonical p → pssh_of (pssh_body p) ≡ Ok p
unfolding pssh_body
pssh_again p canonical =
    let short = canonical.short in
    let size = boxed_length p in
    let parts = parts_length p in
    let listed = few_listed p.version p.kids (p.version == 0) refl canonical.kids canonical.plain in
    let kids : length p.kids < 2 ^ 32 = omega (arith, short, size, parts, listed) in
    let content : length p.content < 2 ^ 32 = omega (arith, short, size, parts) in
    fields_again p.version p.system (listed_body p.version p.kids) (content_body p.content) p.content p.kids canonical.system
    (kids_by p.version p.kids (content_body p.content) (p.version == 0) refl canonical.kids canonical.plain kids) (content_again p.content content)

-- ---- the box

abbrev box_of : List ℕ → ℕ → Found
box_of body place = record { kind = codes "pssh"; place = place; body = body; body_place = place + 8 }

in_again : (p : Pssh) (place : ℕ) → IsCanonical p → pssh_in (box_of (pssh_body p) place) ≡ Ok p
unfolding pssh_in
in_again p place canonical = pssh_again p canonical

fits : (p : Pssh) → IsCanonical p → 8 + length (pssh_body p) < 2 ^ 32
fits p canonical =
    let short = canonical.short in
    omega (arith, short, boxed_length p)

tail : (old new : List ℕ) (p : Pssh) → new ≡ old ++ pssh_box p → drop (length old) new ≡ pssh_box p
tail old new p e = rw e (drop_at old (pssh_box p) (length old) refl)

at_end : (place : ℕ) (top : Bool) → walk [] place top ≡ record { boxes = []; fault = None }
unfolding walk boxes_left walk_of
at_end place top = refl

walked_again : (p : Pssh) → IsCanonical p → walk (pssh_box p) 0 false ≡ before (box_of (pssh_body p) 0) (record { boxes = []; fault = None })
walked_again p canonical =
    let met = rw append-nil at (written_again (codes "pssh") (pssh_body p) [] 0 false refl (fits p canonical)) in
    met ∙ ap (before (box_of (pssh_body p) 0)) (at_end (0 + (8 + length (pssh_body p))) false)

list_again : (p : Pssh) → IsCanonical p → pssh_list (pssh_box p) ≡ Ok (p ∷ [])
unfolding pssh_list gathered read_each
list_again p canonical =
    let size = boxed_length p in
    let some : ltb 0 (length (pssh_box p)) ≡ true = lt-ltb _ _ (omega (arith, size)) in
    let short : nat_le (length (pssh_box p)) MAX_INIT_DATA_BYTES ≡ true = le-leb _ _ canonical.short in
    rw (some, short, walked_again p canonical, in_again p 0 canonical) refl

-- what a writer appended is read again
pub written : {U : Type 0} (r : Result U PutFault) (old new : List ℕ) (p : Pssh) → OnOk r (new ≡ old ++ pssh_box p) → OnOk r (IsCanonical p → IsReadAgain old new p)
written (Ok u) old new p e = λ canonical after base top.
    let size : base + length new ≡ base + length old + (8 + length (pssh_body p)) = omega (arith, ap length e, length-append old (pssh_box p), boxed_length p) in
    let met = written_again (codes "pssh") (pssh_body p) after (base + length old) top refl (fits p canonical) in
    (box_of (pssh_body p) (base + length old), (rw (tail old new p e, size) met, (refl, in_again p (base + length old) canonical)))
written (Err f) old new p e = tt

pub alone : {U : Type 0} (r : Result U PutFault) (old new : List ℕ) (p : Pssh) → OnOk r (new ≡ old ++ pssh_box p) → OnOk r (IsCanonical p → pssh_list (drop (length old) new) ≡ Ok (p ∷ []))
alone (Ok u) old new p e = λ canonical. rw (tail old new p e) (list_again p canonical)
alone (Err f) old new p e = tt
