-- Ranges that cover the bytes that are not clear, joined, are these bytes.
use Rattle.std.proofs.Common.{◌≡◌, ℕ, ◌+◌, ◌-◌, ◌≤◌, false, not, List, [], ◌∷◌, ◌++◌, refl, sym, ap, ◌∙◌, arith}
use Rattle.std.specs.Prelude.{filter}
use Rattle.std.specs.List.{range_with_len, flat_map}
use Rattle.std.proofs.lemmas.List.Elements.{filter-append}
use Rattle.pattern_map.specs.declared.range.ByteRange.{ByteRange}
use Rattle.pattern_map.specs.ByteClasses.{ByteClass, Clear, Protected, Block}
use Rattle.pattern_map.specs.Coverage.{is_clear, later, IsRange, Cover, places_of}
use Rattle.pattern_map.proofs.CountLemmas.{range_split, kept_all, kept_none}

later_encrypted : (c : ByteClass) (j : ℕ) → is_clear c ≡ false → is_clear (later c j) ≡ false
later_encrypted Clear j h = cc
later_encrypted (Protected n) j h = refl
later_encrypted (Block s r place) j h = refl

module _ (class : ℕ → ByteClass) (Longest : ByteRange → Type 0) (size : ℕ) where
  abbrev kept : ℕ → ℕ → List ℕ
  kept a n = filter (λ i. not (is_clear (class i))) (range_with_len a n)

  kept_split : (a m n : ℕ) → kept a (m + n) ≡ kept a m ++ kept (a + m) n
  kept_split a m n =
      ap (filter (λ i. not (is_clear (class i)))) (range_split a m n)
      ∙ filter-append (λ i. not (is_clear (class i))) (range_with_len a m) (range_with_len (a + m) n)

  in_range : (start : ℕ) (next : ByteClass) (r : ByteRange) → IsRange class Longest size start next r → kept r.from (r.to - r.from) ≡ places_of r
  in_range start next r is = kept_all (λ i. not (is_clear (class i))) r.from (r.to - r.from) (λ i low high.
      let there : r.from + (i - r.from) ≡ i = omega arith in
      let encrypted = later_encrypted (class r.from) (i - r.from) is.encrypted in
      rw (rw there at (is.bytes (i - r.from) (omega arith)), encrypted) refl)

  joined : (rs : List ByteRange) (start : ℕ) (next : ByteClass) → start ≤ size → Cover class Longest size start next rs → flat_map places_of rs ≡ kept start (size - start)
  joined [] start next le clear = sym (kept_none (λ i. not (is_clear (class i))) start (size - start) (λ i low high. rw (clear i low (omega arith)) refl))
  joined (r ∷ more) start next le cover =
      let is = cover.0 in
      let order = is.order in
      let some = is.some in
      let within = is.within in
      let before : kept start (r.from - start) ≡ [] = kept_none (λ i. not (is_clear (class i))) start (r.from - start) (λ i low high. rw (is.before i low (omega arith)) refl) in
      let first : start + (r.from - start) ≡ r.from = omega arith in
      let second : r.from + (r.to - r.from) ≡ r.to = omega arith in
      let all : r.from - start + (r.to - r.from + (size - r.to)) ≡ size - start = omega arith in
      let split = rw (first, all) at (kept_split start (r.from - start) (r.to - r.from + (size - r.to))) in
      let split_more = rw second at (kept_split r.from (r.to - r.from) (size - r.to)) in
      let rest = joined more r.to (later (class r.from) (r.to - r.from)) within cover.1 in
      sym (rw (split, before, split_more, in_range start next r is, rest) refl)

  pub joined_all : (rs : List ByteRange) (next : ByteClass) → Cover class Longest size 0 next rs → flat_map places_of rs ≡ kept 0 size
  joined_all rs next cover =
      let all : size - 0 ≡ size = omega arith in
      rw all at (joined rs 0 next (omega arith) cover)
