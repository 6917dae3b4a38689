-- A sample that is opened range by range.
use Rattle.std.proofs.Common.{◌≡◌, ℕ, ◌+◌, ◌-◌, ◌<◌, ◌≤◌, List, [], length, get_or, take, drop, refl, sym, ◌∙◌, arith, inl, inr, rules, get_or-take, get_or-drop}
use Rattle.std.specs.Prelude.{map, Option, Some}
use borrow.Rule.Slice.PartMut.{put_mid}
use Rattle.std.specs.List.{range_with_len}
use Rattle.std.proofs.lemmas.Bool.{cases_lt}
use Rattle.std.proofs.lemmas.List.{places}
use Rattle.std.proofs.lemmas.List.FromFn.{fill_by_all}
use Rattle.eme_types.specs.declared.sample.Protect.{Protect}
use Rattle.pattern_map.specs.declared.range.ByteRange.{ByteRange}
use Rattle.pattern_map.specs.ByteClasses.{ByteClass, Protected, class_in, protected_class}
use Rattle.pattern_map.specs.Coverage.{IsLongestIn, IsLongest, IsRange, Cover}
use Rattle.ctr_cbc.proofs.StreamLemmas.{before, inside, after}
use Rattle.sample_crypt.specs.Decryption.{opened_byte}

-- the class of byte i
abbrev pub class_of : Protect → List ℕ → ℕ → ByteClass
class_of p bytes i = protected_class p.scheme p (length bytes) i

-- the ranges that are still to come
abbrev pub ToCome : Protect → List ℕ → ℕ → ByteClass → List ByteRange → Type 0
ToCome p bytes start next rest = Cover (class_of p bytes) (IsLongestIn p.scheme p (length bytes)) (length bytes) start next rest

abbrev pub Comes : Protect → List ℕ → ℕ → ByteClass → ByteRange → Type 0
Comes p bytes start next r = IsRange (class_of p bytes) (IsLongestIn p.scheme p (length bytes)) (length bytes) start next r

-- byte i of the decryption
abbrev pub clear_byte : List ℕ → Protect → List ℕ → ℕ → ℕ
clear_byte key p bytes i = opened_byte key p bytes i (class_of p bytes i)

-- the bytes below `start` are opened, and the others are as they were
pub record Opened (key : List ℕ) (p : Protect) (was : List ℕ) (start : ℕ) (bytes : List ℕ) : Type 0 where
  pub long : length bytes ≡ length was
  pub below : (i : ℕ) → i < start → get_or bytes i 0 ≡ clear_byte key p was i
  pub above : (i : ℕ) → start ≤ i → get_or bytes i 0 ≡ get_or was i 0

pub opened_none : (key : List ℕ) (p : Protect) (was : List ℕ) → Opened key p was 0 was
opened_none key p was = record { long = refl; below = λ i lt. absurd (omega arith); above = λ i le. refl }

put_length : (a n : ℕ) (xs ys : List ℕ) → a + n ≤ length xs → length ys ≡ n → length (put_mid a n xs ys) ≡ length xs
put_length a n xs ys le len = search (rules, places)

-- a range is opened
pub opened_more : (key : List ℕ) (p : Protect) (was : List ℕ) (start : ℕ) (next : ByteClass) (r : ByteRange) (bytes ys : List ℕ)
    → Opened key p was start bytes → Comes p was start next r
    → length ys ≡ r.to - r.from → ((j : ℕ) → j < r.to - r.from → get_or ys j 0 ≡ clear_byte key p was (r.from + j))
    → Opened key p was r.to (put_mid r.from (r.to - r.from) bytes ys)
opened_more key p was start next r bytes ys so_far is len each =
    let long = so_far.long in
    let some = is.some in
    let within = is.within in
    let order = is.order in
    record {
      long = put_length r.from (r.to - r.from) bytes ys (omega arith) len ∙ long;
      below = λ i lt. elim (cases_lt i r.from) [
        | inl lower ↦ before r.from (r.to - r.from) bytes ys i (omega arith) lower ∙ elim (cases_lt i start) [
          | inl done ↦ so_far.below i done
          | inr left ↦ so_far.above i left ∙ rw (is.before i left lower) refl
        ]
        | inr past ↦
            let there : r.from + (i - r.from) ≡ i = omega arith in
            inside r.from (r.to - r.from) bytes ys i (i - r.from) (omega arith) len (omega arith) (sym there) ∙ rw there at (each (i - r.from) (omega arith))
      ];
      above = λ i le. after r.from (r.to - r.from) bytes ys i (omega arith) len (omega arith) ∙ so_far.above i (omega arith);
    }

-- all ranges are opened
pub opened_all : (key : List ℕ) (p : Protect) (was : List ℕ) (start : ℕ) (next : ByteClass) (bytes : List ℕ)
    → Opened key p was start bytes → ToCome p was start next [] → bytes ≡ map (clear_byte key p was) (range_with_len 0 (length was))
opened_all key p was start next bytes so_far clear = fill_by_all (clear_byte key p was) bytes (length was) 0 so_far.long (λ i lt. elim (cases_lt i start) [
  | inl done ↦ so_far.below i done
  | inr left ↦ so_far.above i left ∙ rw (clear i left lt) refl
])

-- a byte of a range, as it is before
pub range_byte : (key : List ℕ) (p : Protect) (was : List ℕ) (start : ℕ) (next : ByteClass) (r : ByteRange) (bytes : List ℕ) (j : ℕ)
    → Opened key p was start bytes → Comes p was start next r → j < r.to - r.from → get_or (take (r.to - r.from) (drop r.from bytes)) j 0 ≡ get_or was (r.from + j) 0
range_byte key p was start next r bytes j so_far is lt =
    let order = is.order in
    get_or-take (r.to - r.from) (drop r.from bytes) j 0 lt ∙ get_or-drop r.from bytes j 0 ∙ so_far.above (r.from + j) (omega arith)

-- the ranges of a protected sample
pub all_to_come : (protect : Option Protect) (p : Protect) (bytes : List ℕ) (rs : List ByteRange) → protect ≡ Some p
    → Cover (class_in protect (length bytes)) (IsLongest protect (length bytes)) (length bytes) 0 (Protected 0) rs → ToCome p bytes 0 (Protected 0) rs
all_to_come protect p bytes rs e cover = rw e at cover
