-- The ranges of a walk cover the bytes that are not clear.
use Rattle.std.proofs.Common.{◌≡◌, ◌≢◌, ℕ, zero, suc, ◌+◌, ◌-◌, ◌*◌, ◌/◌, ◌%◌, ◌<◌, ◌≤◌, min, Bool, true, false, List, [], ◌∷◌, ◌++◌, length, refl, sym, ap, ◌∙◌, arith, subst, inl, inr, eqb, eqb-true, ne_eqb}
use Rattle.std.specs.Prelude.{nat_lt, Option, Some, None, ◌&&◌, ◌==◌, if◌then◌else◌, IsTrue, is_some}
use Rattle.std.specs.List.{sum_by}
use Rattle.std.proofs.lemmas.Bool.{cases_lt, lt-ltb, le-ltb}
use Rattle.std.proofs.lemmas.List.Sums.{sum_by-cons}
use Rattle.pattern_map.specs.declared.range.ByteRange.{ByteRange}
use Rattle.pattern_map.specs.ByteClasses.{ByteClass, Clear, Protected, Block, Spot, is_encrypted, rank, block_class, class_in, is_protected, protected_class, spot_from, stream_class, subsamples}
use Rattle.pattern_map.specs.Coverage.{is_clear, later, begins_chain, AreWhole, IsLongestIn, IsLongest, Cover}
use Rattle.eme_types.specs.declared.sample.Protect.{Protect}
use Rattle.eme_types.specs.declared.sample.Scheme.{Scheme}
use Rattle.eme_types.specs.declared.sample.Scheme.TheVariants.{Cenc, Cbcs}
use Rattle.eme_types.specs.declared.sample.Sub.{Sub}
use Rattle.eme_types.specs.WellFormed.{is_covered, is_well_protected, pattern_fits, sub_length}
use Rattle.pattern_map.specs.Walk.{runs_from, step_of, whole_blocks, part_ranges, ranges_from}
use Rattle.pattern_map.proofs.CountLemmas.{count, count_more, count_same, is_crypt, is_skip, rank_of, rank_whole}
use Rattle.pattern_map.proofs.BlockLemmas.{tested_block}
use Rattle.pattern_map.proofs.SpotLemmas.{spot_clear, spot_part, spot_behind, spot_stands}
use Rattle.pattern_map.proofs.WalkLemmas.{no_runs, one_run}

-- n bytes from a on, side by side in a stream or a chain
pub record IsRun (class : ℕ → ByteClass) (a n : ℕ) (fresh : Bool) : Type 0 where
  pub encrypted : is_clear (class a) ≡ false
  pub bytes : (j : ℕ) → j < n → class (a + j) ≡ later (class a) j
  pub blocks : AreWhole (class a) n
  pub begins : fresh ≡ begins_chain (class a)

-- clear bytes
abbrev pub AreClear : (ℕ → ByteClass) → ℕ → ℕ → Type 0
AreClear class a b = (i : ℕ) → a ≤ i → i < b → class i ≡ Clear

pub clear_join : (class : ℕ → ByteClass) (a m b : ℕ) → AreClear class a m → AreClear class m b → AreClear class a b
clear_join class a m b first second i low high = elim (cases_lt i m) [ inl lt ↦ first i low lt | inr le ↦ second i le high ]

module _ (class : ℕ → ByteClass) (Longest : ByteRange → Type 0) (size : ℕ) where
  -- these ranges cover the bytes from b on, wherever the search for them begins
  abbrev pub Rest : (ByteClass → Type 0) → ℕ → List ByteRange → Type 0
  Rest ok b rest = (start : ℕ) (next : ByteClass) → start ≤ b → AreClear class start b → ok next → Cover class Longest size start next rest

  pub cover_range : (start a n : ℕ) (fresh : Bool) (next : ByteClass) (rest : List ByteRange) → start ≤ a → 0 < n → a + n ≤ size → AreClear class start a
      → IsRun class a n fresh → Longest (record { from = a; to = a + n; fresh = fresh }) → (fresh ≡ false → class a ≡ next)
      → Cover class Longest size (a + n) (later (class a) n) rest
      → Cover class Longest size start next (record { from = a; to = a + n; fresh = fresh } ∷ rest)
  cover_range start a n fresh next rest le some fits clear run long_run follows more =
      let long : a + n - a ≡ n = omega arith in (
        record {
          order = le;
          some = omega arith;
          within = fits;
          before = clear;
          encrypted = run.encrypted;
          bytes = λ j lt. run.bytes j (omega arith);
          blocks = rw long run.blocks;
          longest = long_run;
          fresh = run.begins;
          follows = follows;
        },
        rw long more,
      )

  -- a part that is one run, or has no byte
  pub cover_one : (ok : ByteClass → Type 0) (start a n b : ℕ) (fresh : Bool) (next : ByteClass) (rest : List ByteRange) → start ≤ a → a + n ≤ b → b ≤ size
      → AreClear class start a → AreClear class (a + n) b
      → (0 < n → IsRun class a n fresh) → (0 < n → Longest (record { from = a; to = a + n; fresh = fresh })) → (0 < n → fresh ≡ false → class a ≡ next)
      → (n ≡ 0 → ok next) → (0 < n → ok (later (class a) n))
      → Rest ok b rest
      → Cover class Longest size start next (runs_from n n 0 a n fresh ++ rest)
  unfolding runs_from
  cover_one ok start a zero b fresh next rest le fits within clear behind run long_run follows same goes more =
      let there : a + 0 ≡ a = omega arith in
      more start next (omega arith) (clear_join class start a b clear (rw there at behind)) (same refl)
  cover_one ok start a (suc m) b fresh next rest le fits within clear behind run long_run follows same goes more =
      let some : 0 < suc m = omega arith in
      subst (λ (rs : List ByteRange). Cover class Longest size start next (rs ++ rest)) (sym (one_run a (suc m) fresh some))
      (cover_range start a (suc m) fresh next rest le some (omega arith) clear (run some) (long_run some) (follows some)
      (more (a + suc m) (later (class a) (suc m)) fits behind (goes some)))

  -- a part of `whole` bytes of blocks at a, whose pattern encrypts and skips
  module _ (crypt skip s a whole b : ℕ) (rest : List ByteRange) (some : 0 < crypt) (more : 0 < skip) (even : whole % 16 ≡ 0) (fits : a + whole ≤ b) (within : b ≤ size)
      (encrypted : (y : ℕ) → y < whole → is_encrypted crypt skip (y / 16) ≡ true → class (a + y) ≡ Block s (rank crypt skip (y / 16)) (y % 16))
      (skipped : (y : ℕ) → y < whole → is_encrypted crypt skip (y / 16) ≡ false → class (a + y) ≡ Clear)
      (behind : AreClear class (a + whole) b)
      (runs_apart : (from to : ℕ) (fresh : Bool) → class to ≢ later (class from) (to - from) → Longest (record { from = from; to = to; fresh = fresh }))
      (apart : (r place : ℕ) → class (a + whole) ≢ Block s r place)
      (onward : Rest (λ c. Unit {0}) b rest) where
    -- byte j of period k, in its front
    crypt_byte : (k j : ℕ) → k * (crypt + skip) * 16 + j < whole → j < crypt * 16 → class (a + k * (crypt + skip) * 16 + j) ≡ Block s (k * crypt + j / 16) (j % 16)
    crypt_byte k j in_part lt =
        let q : (k * (crypt + skip) * 16 + j) / 16 ≡ k * (crypt + skip) + j / 16 = omega arith in
        let o : (k * (crypt + skip) * 16 + j) % 16 ≡ j % 16 = omega arith in
        let there : a + (k * (crypt + skip) * 16 + j) ≡ a + k * (crypt + skip) * 16 + j = omega arith in
        let is = rw (q, o, there) at (encrypted (k * (crypt + skip) * 16 + j) in_part) in
        is (is_crypt crypt skip some more k (j / 16) (omega arith)) ∙ ap (λ r. Block s r (j % 16)) (rank_of crypt skip some more k (j / 16) (omega arith))

    -- the others
    skip_byte : (k j : ℕ) → k * (crypt + skip) * 16 + j < whole → crypt * 16 ≤ j → j < (crypt + skip) * 16 → class (a + k * (crypt + skip) * 16 + j) ≡ Clear
    skip_byte k j in_part low high =
        let q : (k * (crypt + skip) * 16 + j) / 16 ≡ k * (crypt + skip) + j / 16 = omega arith in
        let there : a + (k * (crypt + skip) * 16 + j) ≡ a + k * (crypt + skip) * 16 + j = omega arith in
        let is = rw (q, there) at (skipped (k * (crypt + skip) * 16 + j) in_part) in
        is (is_skip crypt skip some more k (j / 16) (omega arith) (omega arith))

    first_byte : (k : ℕ) → k * (crypt + skip) * 16 < whole → class (a + k * (crypt + skip) * 16) ≡ Block s (k * crypt) 0
    first_byte k in_part =
        let start : a + k * (crypt + skip) * 16 + 0 ≡ a + k * (crypt + skip) * 16 = omega arith in
        let plus : k * crypt + 0 / 16 ≡ k * crypt = omega arith in
        rw (start, plus) at (crypt_byte k 0 (omega arith) (omega arith))

    -- the front of period k is a run
    front : (k n : ℕ) (fresh : Bool) → 0 < n → n % 16 ≡ 0 → n ≤ crypt * 16 → k * (crypt + skip) * 16 + n ≤ whole → fresh ≡ eqb (k * crypt) 0 → IsRun class (a + k * (crypt + skip) * 16) n fresh
    front k n fresh here even_n le in_part begins =
        let first = first_byte k (omega arith) in
        record {
          encrypted = rw first refl;
          bytes = λ j lt. let from : 0 + j ≡ j = omega arith in rw (first, from) (crypt_byte k j (omega arith) (omega arith));
          blocks = rw first (refl, even_n);
          begins = rw first begins;
        }

    -- behind the front of period k the next period goes on, if there are bytes left
    onto : (k : ℕ) → k * (crypt + skip) * 16 < whole → Block s ((k + 1) * crypt) 0 ≡ later (class (a + k * (crypt + skip) * 16)) (crypt * 16)
    onto k in_part =
        let rank_is : k * crypt + (0 + crypt * 16) / 16 ≡ (k + 1) * crypt = omega arith in
        let place_is : (0 + crypt * 16) % 16 ≡ 0 = omega arith in
        rw (first_byte k in_part, rank_is, place_is) refl

    gap_clear : (k n : ℕ) → k * (crypt + skip) * 16 + n ≤ whole → n ≤ (crypt + skip) * 16 → AreClear class (a + k * (crypt + skip) * 16 + min (crypt * 16) n) (a + k * (crypt + skip) * 16 + n)
    gap_clear k n in_part le i low high =
        let j = i - (a + k * (crypt + skip) * 16) in
        let there : a + k * (crypt + skip) * 16 + (i - (a + k * (crypt + skip) * 16)) ≡ i = omega arith in
        rw there at (skip_byte k (i - (a + k * (crypt + skip) * 16)) (omega arith) (omega arith) (omega arith))

    -- behind the front of period k its chain does not go on
    run_end : (k left : ℕ) (fresh : Bool) → 0 < left → k * (crypt + skip) * 16 + left ≡ whole
        → Longest (record { from = a + k * (crypt + skip) * 16; to = a + k * (crypt + skip) * 16 + min (crypt * 16) left; fresh = fresh })
    run_end k left fresh here all = runs_apart (a + k * (crypt + skip) * 16) (a + k * (crypt + skip) * 16 + min (crypt * 16) left) fresh (λ e.
        let first = first_byte k (omega arith) in
        elim (cases_lt (crypt * 16) left) [
          | inl over ↦
              let run_is : min (crypt * 16) left ≡ crypt * 16 = omega arith in
              let gap = skip_byte k (crypt * 16) (omega arith) (omega arith) (omega arith) in
              let wrong = sym gap ∙ rw (first, run_is) at e in
              cc
          | inr under ↦
              let run_is : min (crypt * 16) left ≡ left = omega arith in
              let end : a + k * (crypt + skip) * 16 + left ≡ a + whole = omega arith in
              apart _ _ (rw (first, run_is, end) at e)
        ])

    pub cover_runs : (f k left start : ℕ) (fresh : Bool) (next : ByteClass) → left ≤ f → k * (crypt + skip) * 16 + left ≡ whole
        → start ≤ a + k * (crypt + skip) * 16 → AreClear class start (a + k * (crypt + skip) * 16)
        → fresh ≡ eqb (k * crypt) 0 → (fresh ≡ false → Block s (k * crypt) 0 ≡ next)
        → Cover class Longest size start next (runs_from f (crypt * 16) (skip * 16) (a + k * (crypt + skip) * 16) left fresh ++ rest)
    unfolding runs_from
    cover_runs zero k zero start fresh next le all low clear begins follows =
        let there : a + k * (crypt + skip) * 16 ≡ a + whole = omega arith in
        onward start next (omega arith) (clear_join class start (a + whole) b (rw there at clear) behind) tt
    cover_runs zero k (suc n) start fresh next le all low clear begins follows = absurd (omega arith)
    cover_runs (suc f) k zero start fresh next le all low clear begins follows =
        let there : a + k * (crypt + skip) * 16 ≡ a + whole = omega arith in
        onward start next (omega arith) (clear_join class start (a + whole) b (rw there at clear) behind) tt
    cover_runs (suc f) k (suc n) start fresh next le all low clear begins follows =
        let p = a + k * (crypt + skip) * 16 in
        let even_left : suc n % 16 ≡ 0 = omega arith in
        let run_n = min (crypt * 16) (suc n) in
        let first = first_byte k (omega arith) in
        cover_range start p run_n fresh next _ low (omega arith) (omega arith) clear
        (front k run_n fresh (omega arith) (omega arith) (omega arith) (omega arith) begins) (run_end k (suc n) fresh (omega arith) all)
        (λ e. first ∙ follows e)
        (elim (cases_lt ((crypt + skip) * 16) (suc n)) [
          | inl over ↦
              let period = (crypt + skip) * 16 in
              let run_is : min (crypt * 16) (suc n) ≡ crypt * 16 = omega arith in
              let next_at : a + k * (crypt + skip) * 16 + step_of (crypt * 16) (skip * 16) (suc n) ≡ a + (k + 1) * (crypt + skip) * 16 = omega arith in
              let left_is : suc n - step_of (crypt * 16) (skip * 16) (suc n) ≡ suc n - (crypt + skip) * 16 = omega arith in
              let front_is : min (crypt * 16) ((crypt + skip) * 16) ≡ crypt * 16 = omega arith in
              let end : a + k * (crypt + skip) * 16 + (crypt + skip) * 16 ≡ a + (k + 1) * (crypt + skip) * 16 = omega arith in
              let gap = rw (front_is, end) at (gap_clear k ((crypt + skip) * 16) (omega arith) (omega arith)) in
              rw (next_at, left_is, run_is)
              (cover_runs f (k + 1) (suc n - (crypt + skip) * 16) (a + k * (crypt + skip) * 16 + crypt * 16) false (later (class (a + k * (crypt + skip) * 16)) (crypt * 16))
              (omega arith) (omega arith) (omega arith) gap (sym (ne_eqb ((k + 1) * crypt) 0 (λ e. omega arith))) (λ e. onto k (omega arith)))
          | inr under ↦
              let left_is : suc n - step_of (crypt * 16) (skip * 16) (suc n) ≡ 0 = omega arith in
              let end : a + k * (crypt + skip) * 16 + suc n ≡ a + whole = omega arith in
              let gap = rw end at (gap_clear k (suc n) (omega arith) under) in
              rw (left_is, no_runs f (crypt * 16) (skip * 16) (a + k * (crypt + skip) * 16 + step_of (crypt * 16) (skip * 16) (suc n)) false)
              (onward (a + k * (crypt + skip) * 16 + min (crypt * 16) (suc n)) (later (class (a + k * (crypt + skip) * 16)) (min (crypt * 16) (suc n))) (omega arith)
              (clear_join class (a + k * (crypt + skip) * 16 + min (crypt * 16) (suc n)) (a + whole) b gap behind) tt)
        ])

-- a byte of a whole block
block_in : (crypt skip s y size : ℕ) → y < whole_blocks size → is_encrypted crypt skip (y / 16) ≡ true
    → block_class crypt skip (Some (record { subsample = s; place = y; size = size })) ≡ Block s (rank crypt skip (y / 16)) (y % 16)
block_in crypt skip s y size lt is = rw (lt-ltb (y / 16) (size / 16) (omega arith), is) refl

block_skipped : (crypt skip s y size : ℕ) → is_encrypted crypt skip (y / 16) ≡ false
    → block_class crypt skip (Some (record { subsample = s; place = y; size = size })) ≡ Clear
block_skipped crypt skip s y size is = elim (cases_lt (y / 16) (size / 16)) [
  | inl lt ↦ rw (lt-ltb (y / 16) (size / 16) lt, is) refl
  | inr le ↦ rw (le-ltb (y / 16) (size / 16) le) refl
]

block_tail : (crypt skip s y size : ℕ) → whole_blocks size ≤ y
    → block_class crypt skip (Some (record { subsample = s; place = y; size = size })) ≡ Clear
block_tail crypt skip s y size le = rw (le-ltb (y / 16) (size / 16) (omega arith)) refl

fits_some : (crypt skip : ℕ) → IsTrue (pattern_fits Cbcs crypt skip) → 0 < skip → 0 < crypt
fits_some crypt skip fits more = elim (cases_lt 0 crypt) [
  | inl some ↦ some
  | inr le ↦ let none : crypt ≡ 0 = omega arith in let skips = ne_eqb skip 0 (λ e. omega arith) in let wrong = rw (none, skips) at fits in cc
]

-- a protected part of blocks
module _ (class : ℕ → ByteClass) (Longest : ByteRange → Type 0) (size crypt skip s a prot start : ℕ) (next : ByteClass) (rest : List ByteRange)
    (runs_apart : (from to : ℕ) (fresh : Bool) → class to ≢ later (class from) (to - from) → Longest (record { from = from; to = to; fresh = fresh }))
    (apart : (r place : ℕ) → class (a + prot) ≢ Block s r place)
    (is : (y : ℕ) → y < prot → class (a + y) ≡ block_class crypt skip (Some (record { subsample = s; place = y; size = prot })))
    (within : a + prot ≤ size) (low : start ≤ a) (clear : AreClear class start a) (onward : Rest class Longest size (λ c. Unit {0}) (a + prot) rest) where
  tail_clear : AreClear class (a + whole_blocks prot) (a + prot)
  tail_clear i low high =
      let there : a + (i - a) ≡ i = omega arith in
      rw there at (is (i - a) (omega arith)) ∙ block_tail crypt skip s (i - a) prot (omega arith)

  blocks_apart : (r place : ℕ) → class (a + whole_blocks prot) ≢ Block s r place
  blocks_apart r place e = elim (cases_lt (whole_blocks prot) prot) [
    | inl lt ↦ let wrong = sym (tail_clear (a + whole_blocks prot) (omega arith) (omega arith)) ∙ e in cc
    | inr le ↦ let all : whole_blocks prot ≡ prot = omega arith in apart r place (rw all at e)
  ]

  part_byte : skip ≡ 0 → (y : ℕ) → y < whole_blocks prot → class (a + y) ≡ Block s (y / 16) (y % 16)
  part_byte none y lt =
      let all : is_encrypted crypt skip (y / 16) ≡ true = rw none refl in
      is y (omega arith) ∙ block_in crypt skip s y prot lt all ∙ rw none (ap (λ r. Block s r (y % 16)) (rank_whole crypt (y / 16)))

  part_first : skip ≡ 0 → 0 < whole_blocks prot → class a ≡ Block s 0 0
  part_first none here = let there : a + 0 ≡ a = omega arith in rw there at (part_byte none 0 here)

  part_run : skip ≡ 0 → 0 < whole_blocks prot → IsRun class a (whole_blocks prot) true
  part_run none here =
      let first = part_first none here in
      record {
        encrypted = rw first refl;
        bytes = λ j lt.
            let from : 0 + j ≡ j = omega arith in
            let rank_is : 0 + j / 16 ≡ j / 16 = omega arith in
            rw (first, from, rank_is) (part_byte none j lt);
        blocks = rw first (refl, omega arith);
        begins = rw first refl;
      }

  part_end : skip ≡ 0 → 0 < whole_blocks prot → Longest (record { from = a; to = a + whole_blocks prot; fresh = true })
  part_end none here = runs_apart a (a + whole_blocks prot) true (λ e. blocks_apart _ _ (rw (part_first none here) at e))

  pub cover_blocks : IsTrue (pattern_fits Cbcs crypt skip) → Cover class Longest size start next (part_ranges Cbcs crypt skip a prot ++ rest)
  cover_blocks fits = elim (cases_lt 0 skip) [
    | inl more ↦
        let skips = ne_eqb skip 0 (λ e. omega arith) in
        let there : a + 0 * (crypt + skip) * 16 ≡ a = omega arith in
        let none : 0 * crypt ≡ 0 = omega arith in
        let begins : true ≡ eqb (0 * crypt) 0 = rw none refl in
        rw skips (rw there at (cover_runs class Longest size crypt skip s a (whole_blocks prot) (a + prot) rest (fits_some crypt skip fits more) more (omega arith) (omega arith) within
        (λ y lt enc. is y (omega arith) ∙ block_in crypt skip s y prot lt enc) (λ y lt enc. is y (omega arith) ∙ block_skipped crypt skip s y prot enc)
        tail_clear runs_apart blocks_apart onward (whole_blocks prot) 0 (whole_blocks prot) start true next (omega arith) (omega arith) (omega arith) (rw there clear) begins (λ e. cc)))
    | inr le ↦
        let none : skip ≡ 0 = omega arith in
        rw none (cover_one class Longest size (λ c. Unit {0}) start a (whole_blocks prot) (a + prot) true next rest low (omega arith) within clear tail_clear
        (part_run none) (part_end none) (λ here e. cc) (λ e. tt) (λ here. tt) onward)
  ]

-- the blocks of subsamples from number t on are of none before
blocks_behind : (crypt skip : ℕ) (subs : List Sub) (t x s r place : ℕ) → s < t → block_class crypt skip (spot_from t subs x) ≢ Block s r place
blocks_behind crypt skip subs t x s r place before = go (spot_from t subs x) refl where
  go : (spot : Option Spot) → spot_from t subs x ≡ spot → block_class crypt skip spot ≢ Block s r place
  go None is e = cc
  go (Some y) is e =
      let st = spot_stands t subs x y is in
      let number = st.is_number in
      let tested = tested_block (nat_lt (y.place / 16) (y.size / 16)) (is_encrypted crypt skip (y.place / 16)) y.subsample (rank crypt skip (y.place / 16)) (y.place % 16) s r place e in
      let same : y.subsample ≡ s = tested.2 in
      absurd (omega arith)

-- the subsamples from number s on, which begin at b
module _ (class : ℕ → ByteClass) (Longest : ByteRange → Type 0) (size crypt skip : ℕ) (fits : IsTrue (pattern_fits Cbcs crypt skip))
    (runs_apart : (from to : ℕ) (fresh : Bool) → class to ≢ later (class from) (to - from) → Longest (record { from = from; to = to; fresh = fresh })) where
  pub cover_cbcs : (subs : List Sub) (s b start : ℕ) (next : ByteClass)
      → ((x : ℕ) → class (b + x) ≡ block_class crypt skip (spot_from s subs x))
      → b + sum_by sub_length subs ≡ size → start ≤ b → AreClear class start b
      → Cover class Longest size start next (ranges_from Cbcs crypt skip b subs)
  cover_cbcs [] s b start next is all low clear =
      let there : b ≡ size = omega arith in
      rw there at clear
  cover_cbcs (p ∷ more) s b start next is all low clear =
      let sum : sum_by sub_length (p ∷ more) ≡ p.clear + p.prot + sum_by sub_length more = sum_by-cons sub_length p more in
      let before : AreClear class b (b + p.clear) = λ i from to.
      let there : b + (i - b) ≡ i = omega arith in
      rw there at (is (i - b)) ∙ ap (block_class crypt skip) (spot_clear s p more (i - b) (omega arith)) in
      let part : (y : ℕ) → y < p.prot → class (b + p.clear + y) ≡ block_class crypt skip (Some (record { subsample = s; place = y; size = p.prot })) = λ y lt.
      let there : b + (p.clear + y) ≡ b + p.clear + y = omega arith in
      rw there at (is (p.clear + y)) ∙ ap (block_class crypt skip) (spot_part s p more y lt) in
      let behind : (x : ℕ) → class (b + p.clear + p.prot + x) ≡ block_class crypt skip (spot_from (s + 1) more x) = λ x.
      let there : b + (p.clear + p.prot + x) ≡ b + p.clear + p.prot + x = omega arith in
      rw there at (is (p.clear + p.prot + x)) ∙ ap (block_class crypt skip) (spot_behind s p more x) in
      let apart : (r place : ℕ) → class (b + p.clear + p.prot) ≢ Block s r place = λ r place e.
      let there : b + p.clear + p.prot + 0 ≡ b + p.clear + p.prot = omega arith in
      blocks_behind crypt skip more (s + 1) 0 s r place (omega arith) (sym (rw there at (behind 0)) ∙ e) in
      cover_blocks class Longest size crypt skip s (b + p.clear) p.prot start next (ranges_from Cbcs crypt skip (b + p.clear + p.prot) more) runs_apart apart part (omega arith) (omega arith)
      (clear_join class start b (b + p.clear) clear before)
      (λ start' next' low' clear' _. cover_cbcs more (s + 1) (b + p.clear + p.prot) start' next' behind (omega arith) low' clear') fits

module _ (class : ℕ → ByteClass) (Longest : ByteRange → Type 0) (size crypt skip : ℕ) (all_subs : List Sub)
    (is : (i : ℕ) → class i ≡ (if is_protected all_subs i then Protected (count (is_protected all_subs) i) else Clear))
    (whole_part : (a n s : ℕ) → spot_from 0 all_subs a ≡ Some (record { subsample = s; place = 0; size = n }) → Longest (record { from = a; to = a + n; fresh = false })) where
  abbrev protected : ℕ → Bool
  protected i = is_protected all_subs i

  -- the protected part of n bytes from a on
  protected_run : (a n : ℕ) → ((k : ℕ) → a ≤ k → k < a + n → protected k ≡ true) → 0 < n → IsRun class a n false
  protected_run a n all here =
      let each : (j : ℕ) → j < n → class (a + j) ≡ Protected (count protected a + j) = λ j lt.
      is (a + j) ∙ rw (all (a + j) (omega arith) (omega arith), count_more protected a j (λ k low high. all k low (omega arith))) refl in
      let first : class a ≡ Protected (count protected a) = is a ∙ rw (all a (omega arith) (omega arith)) refl in
      record {
        encrypted = rw first refl;
        bytes = λ j lt. rw first (each j lt);
        blocks = rw first tt;
        begins = rw first refl;
      }

  pub cover_cenc : (subs : List Sub) (s b start : ℕ) (next : ByteClass)
      → ((x : ℕ) → spot_from 0 all_subs (b + x) ≡ spot_from s subs x)
      → b + sum_by sub_length subs ≡ size → start ≤ b → AreClear class start b → next ≡ Protected (count protected b)
      → Cover class Longest size start next (ranges_from Cenc crypt skip b subs)
  cover_cenc [] s b start next spots all low clear goes =
      let there : b ≡ size = omega arith in
      rw there at clear
  cover_cenc (p ∷ more) s b start next spots all low clear goes =
      let sum : sum_by sub_length (p ∷ more) ≡ p.clear + p.prot + sum_by sub_length more = sum_by-cons sub_length p more in
      let left : (k : ℕ) → b ≤ k → k < b + p.clear → protected k ≡ false = λ k from to.
      let there : b + (k - b) ≡ k = omega arith in
      ap is_some (rw there at (spots (k - b)) ∙ spot_clear s p more (k - b) (omega arith)) in
      let part : (k : ℕ) → b + p.clear ≤ k → k < b + p.clear + p.prot → protected k ≡ true = λ k from to.
      let there : b + (p.clear + (k - (b + p.clear))) ≡ k = omega arith in
      ap is_some (rw there at (spots (p.clear + (k - (b + p.clear)))) ∙ spot_part s p more (k - (b + p.clear)) (omega arith)) in
      let behind : (x : ℕ) → spot_from 0 all_subs (b + p.clear + p.prot + x) ≡ spot_from (s + 1) more x = λ x.
      let there : b + (p.clear + p.prot + x) ≡ b + p.clear + p.prot + x = omega arith in
      rw there at (spots (p.clear + p.prot + x)) ∙ spot_behind s p more x in
      let before : AreClear class b (b + p.clear) = λ i from to. is i ∙ rw (left i from to) refl in
      let same = count_same protected b p.clear left in
      let grown = count_more protected (b + p.clear) p.prot part in
      let on = goes ∙ ap Protected (sym same) in
      let first : 0 < p.prot → class (b + p.clear) ≡ Protected (count protected (b + p.clear)) = λ here.
      is (b + p.clear) ∙ rw (part (b + p.clear) (omega arith) (omega arith)) refl in
      cover_one class Longest size (λ c. c ≡ Protected (count protected (b + p.clear + p.prot))) start (b + p.clear) p.prot (b + p.clear + p.prot) false next
      (ranges_from Cenc crypt skip (b + p.clear + p.prot) more) (omega arith) (omega arith) (omega arith)
      (clear_join class start b (b + p.clear) clear before) (λ i from to. absurd (omega arith))
      (protected_run (b + p.clear) p.prot part)
      (λ here.
      let there : b + (p.clear + 0) ≡ b + p.clear = omega arith in
      whole_part (b + p.clear) p.prot s (rw there at (spots (p.clear + 0)) ∙ spot_part s p more 0 here))
      (λ here e. first here ∙ sym on)
      (λ none. let plus : b + p.clear + p.prot ≡ b + p.clear = omega arith in rw plus on)
      (λ here. rw (first here) (ap Protected (sym grown)))
      (λ start' next' low' clear' goes'. cover_cenc more (s + 1) (b + p.clear + p.prot) start' next' behind (omega arith) low' clear' goes')

-- a walk over the subsamples of a protected sample covers it
pub cover_scheme : (scheme : Scheme) (p : Protect) (size : ℕ) → IsTrue (pattern_fits scheme p.crypt p.skip) → sum_by sub_length (subsamples p.subs size) ≡ size
    → Cover (protected_class scheme p size) (IsLongestIn scheme p size) size 0 (Protected 0) (ranges_from scheme p.crypt p.skip 0 (subsamples p.subs size))
cover_scheme Cenc p size fits all =
    let whole_part : (a n s : ℕ) → spot_from 0 (subsamples p.subs size) a ≡ Some (record { subsample = s; place = 0; size = n })
    → IsLongestIn Cenc p size (record { from = a; to = a + n; fresh = false }) = λ a n s e.
    let long : a + n - a ≡ n = omega arith in
    rw e (refl, sym long) in
    cover_cenc (stream_class (subsamples p.subs size)) (IsLongestIn Cenc p size) size p.crypt p.skip (subsamples p.subs size) (λ i. refl) whole_part (subsamples p.subs size) 0 0 0 (Protected 0)
    (λ x. let from : 0 + x ≡ x = omega arith in rw from refl) (omega arith) (omega arith) (λ i low high. absurd (omega arith)) refl
cover_scheme Cbcs p size fits all =
    cover_cbcs (protected_class Cbcs p size) (IsLongestIn Cbcs p size) size p.crypt p.skip fits (λ from to fresh h. h) (subsamples p.subs size) 0 0 0 (Protected 0)
    (λ x. let from : 0 + x ≡ x = omega arith in rw from refl) (omega arith) (omega arith) (λ i low high. absurd (omega arith))

pub all_covered : (subs : List Sub) (size : ℕ) → IsTrue (is_covered subs size) → sum_by sub_length (subsamples subs size) ≡ size
all_covered [] size is =
    let sum : sum_by sub_length (record { clear = 0; prot = size } ∷ []) ≡ 0 + size + sum_by sub_length [] = sum_by-cons sub_length (record { clear = 0; prot = size }) [] in
    let none : sum_by sub_length [] ≡ 0 = refl in
    omega arith
all_covered (p ∷ more) size is = eqb-true _ _ is

no_part : (scheme : Scheme) (crypt skip : ℕ) → part_ranges scheme crypt skip 0 0 ≡ []
no_part Cenc crypt skip = no_runs 0 0 0 0 false
no_part Cbcs crypt skip = elim (cases_lt 0 skip) [
  | inl more ↦ rw (ne_eqb skip 0 (λ e. omega arith)) (no_runs 0 (crypt * 16) (skip * 16) 0 true)
  | inr le ↦ let none : skip ≡ 0 = omega arith in rw none (no_runs 0 0 0 0 true)
]

pub walked_subs : (scheme : Scheme) (crypt skip size : ℕ) (subs : List Sub) → (length subs == 0) ≡ false
    → part_ranges scheme crypt skip 0 0 ++ ranges_from scheme crypt skip 0 subs ≡ ranges_from scheme crypt skip 0 (subsamples subs size)
walked_subs scheme crypt skip size [] e = cc
walked_subs scheme crypt skip size (p ∷ more) e = rw (no_part scheme crypt skip) refl

-- both of two tests
both : (a b : Bool) → IsTrue (a && b) → IsTrue a × IsTrue b
both true b h = (refl, h)
both false b h = cc

-- a well-formed sample is covered by the walk over its subsamples
pub cover_sample : (protect : Option Protect) (p : Protect) (size : ℕ) → protect ≡ Some p → IsTrue (is_well_protected protect size)
    → Cover (class_in protect size) (IsLongest protect size) size 0 (Protected 0) (ranges_from p.scheme p.crypt p.skip 0 (subsamples p.subs size))
cover_sample protect p size e is =
    let parts = both _ _ (rw e at is) in
    let covered = both _ _ parts.0 in
    rw e (cover_scheme p.scheme p size parts.1 (all_covered p.subs size covered.0))

pub cover_clear : (protect : Option Protect) (size : ℕ) → protect ≡ None → Cover (class_in protect size) (IsLongest protect size) size 0 (Protected 0) (runs_from 0 0 0 0 0 false ++ [])
unfolding runs_from
cover_clear protect size e = rw e (λ i low high. refl)
