-- Numbers that are counted by a test, and the ranks of blocks.
use Rattle.std.proofs.Common.{◌≡◌, ℕ, zero, suc, ◌+◌, ◌-◌, ◌*◌, ◌<◌, ◌≤◌, Bool, true, false, List, [], ◌∷◌, ◌++◌, length, refl, ap, ◌∙◌, arith, eqb, ne_eqb, length-append}
use Rattle.std.specs.Prelude.{filter, nat_lt}
use Rattle.std.specs.List.{range_with_len}
use Rattle.std.proofs.lemmas.Bool.{lt-ltb, le-ltb}
use Rattle.std.proofs.lemmas.Nat.{mod-mul-add}
use Rattle.std.proofs.lemmas.List.Elements.{filter-append}
use Rattle.std.proofs.lemmas.List.FromFn.{length-range_with_len}
use Rattle.pattern_map.specs.ByteClasses.{is_encrypted, rank}

pub range_split : (q a b : ℕ) → range_with_len q (a + b) ≡ range_with_len q a ++ range_with_len (q + a) b
range_split q zero b = let e : zero + b ≡ b = omega arith in let f : q + zero ≡ q = omega arith in rw (e, f) refl
range_split q (suc a) b =
    let e : suc a + b ≡ suc (a + b) = omega arith in
    let f : q + suc a ≡ q + 1 + a = omega arith in
    rw (e, f) (ap (λ (xs : List ℕ). q ∷ xs) (range_split (q + 1) a b))

pub kept_all : (p : ℕ → Bool) (q n : ℕ) → ((i : ℕ) → q ≤ i → i < q + n → p i ≡ true) → filter p (range_with_len q n) ≡ range_with_len q n
kept_all p q zero h = refl
kept_all p q (suc n) h =
    rw (h q (omega arith) (omega arith)) (ap (λ (xs : List ℕ). q ∷ xs) (kept_all p (q + 1) n (λ i low high. h i (omega arith) (omega arith))))

pub kept_none : (p : ℕ → Bool) (q n : ℕ) → ((i : ℕ) → q ≤ i → i < q + n → p i ≡ false) → filter p (range_with_len q n) ≡ []
kept_none p q zero h = refl
kept_none p q (suc n) h = rw (h q (omega arith) (omega arith)) (kept_none p (q + 1) n (λ i low high. h i (omega arith) (omega arith)))

-- how many numbers below i pass the test
abbrev pub count : (ℕ → Bool) → ℕ → ℕ
count p i = length (filter p (range_with_len 0 i))

count_split : (p : ℕ → Bool) (i n : ℕ) → count p (i + n) ≡ count p i + length (filter p (range_with_len i n))
count_split p i n =
    let from : 0 + i ≡ i = omega arith in
    let split = rw from at (range_split 0 i n) in
    ap (λ xs. length (filter p xs)) split
    ∙ ap length (filter-append p (range_with_len 0 i) (range_with_len i n))
    ∙ length-append (filter p (range_with_len 0 i)) (filter p (range_with_len i n))

-- all of the next n pass
pub count_more : (p : ℕ → Bool) (i n : ℕ) → ((k : ℕ) → i ≤ k → k < i + n → p k ≡ true) → count p (i + n) ≡ count p i + n
count_more p i n h =
    let all : length (filter p (range_with_len i n)) ≡ n = ap length (kept_all p i n h) ∙ length-range_with_len i n in
    count_split p i n ∙ ap (λ m. count p i + m) all

-- none of the next n passes
pub count_same : (p : ℕ → Bool) (i n : ℕ) → ((k : ℕ) → i ≤ k → k < i + n → p k ≡ false) → count p (i + n) ≡ count p i
count_same p i n h =
    let none : length (filter p (range_with_len i n)) ≡ 0 = ap length (kept_none p i n h) in
    let plus : count p i + 0 ≡ count p i = omega arith in
    count_split p i n ∙ ap (λ m. count p i + m) none ∙ plus

-- without skipped blocks every block is encrypted
pub rank_whole : (crypt q : ℕ) → rank crypt 0 q ≡ q
rank_whole crypt q = ap length (kept_all (is_encrypted crypt 0) 0 q (λ i low high. refl)) ∙ length-range_with_len 0 q

module _ (crypt skip : ℕ) (some : 0 < crypt) (more : 0 < skip) where
  of_period : (k r : ℕ) → r < crypt + skip → is_encrypted crypt skip (k * (crypt + skip) + r) ≡ nat_lt r crypt
  of_period k r lt =
      let skips : eqb skip 0 ≡ false = ne_eqb skip 0 (λ e. omega arith) in
      rw (skips, mod-mul-add k (crypt + skip) r lt) refl

  -- the first blocks of period k
  pub is_crypt : (k r : ℕ) → r < crypt → is_encrypted crypt skip (k * (crypt + skip) + r) ≡ true
  is_crypt k r lt = of_period k r (omega arith) ∙ lt-ltb r crypt lt

  -- the others
  pub is_skip : (k r : ℕ) → crypt ≤ r → r < crypt + skip → is_encrypted crypt skip (k * (crypt + skip) + r) ≡ false
  is_skip k r low high = of_period k r high ∙ le-ltb r crypt low

  rank_more : (k i : ℕ) → i ≤ crypt → rank crypt skip (k * (crypt + skip) + i) ≡ rank crypt skip (k * (crypt + skip)) + i
  rank_more k i le = count_more (is_encrypted crypt skip) (k * (crypt + skip)) i (λ j low high.
      let there : k * (crypt + skip) + (j - k * (crypt + skip)) ≡ j = omega arith in
      rw there at (is_crypt k (j - k * (crypt + skip)) (omega arith)))

  rank_period : (k : ℕ) → rank crypt skip (k * (crypt + skip)) ≡ k * crypt
  rank_period zero =
      let start : 0 * (crypt + skip) ≡ 0 = omega arith in
      let none : 0 * crypt ≡ 0 = omega arith in
      rw (start, none) refl
  rank_period (suc k) =
      let q = k * (crypt + skip) in
      let next : suc k * (crypt + skip) ≡ k * (crypt + skip) + crypt + skip = omega arith in
      let crypts : rank crypt skip (q + crypt) ≡ rank crypt skip q + crypt = rank_more k crypt (omega arith) in
      let skips : rank crypt skip (q + crypt + skip) ≡ rank crypt skip (q + crypt) = count_same (is_encrypted crypt skip) (q + crypt) skip (λ j low high.
      let there : k * (crypt + skip) + (j - k * (crypt + skip)) ≡ j = omega arith in
      rw there at (is_skip k (j - k * (crypt + skip)) (omega arith) (omega arith))) in
      let sum : k * crypt + crypt ≡ suc k * crypt = omega arith in
      ap (rank crypt skip) next ∙ skips ∙ crypts ∙ ap (λ m. m + crypt) (rank_period k) ∙ sum

  -- the rank of block r of period k
  pub rank_of : (k r : ℕ) → r ≤ crypt → rank crypt skip (k * (crypt + skip) + r) ≡ k * crypt + r
  rank_of k r le = rank_more k r le ∙ ap (λ m. m + r) (rank_period k)
