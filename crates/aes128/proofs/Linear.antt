-- Products are additive, and so is the product of a row and a column.
use Rattle.std.proofs.Common.{◌≡◌, ℕ, zero, suc, ◌+◌, ◌*◌, ◌/◌, ◌%◌, ◌<◌, nat_lt, true, false, bit_xor, refl, arith, ◌∙◌, sym, ap, inl, inr, ltb-true, lt-ltb, le-ltb, ◌⊎◌}
use Rattle.std.proofs.lemmas.Bool.{cases_lt}
use Rattle.std.specs.Int.Bits.{xor_block, xor_shr, xor_lt, xor_comm, xor_assoc, xor_zero_r}
use Rattle.std.proofs.Math.Nat.{zero-mul, one-mul}
use Rattle.aes128.specs.Field.{times_x, product, times}
use Rattle.aes128.specs.Cipher.{combined}
use Rattle.aes128.proofs.Below.{all_below, below}

-- four numbers summed in pairs, paired otherwise
pub interchange : (p q r s : ℕ) → bit_xor (bit_xor p q) (bit_xor r s) ≡ bit_xor (bit_xor p r) (bit_xor q s)
interchange p q r s =
    xor_assoc p q (bit_xor r s)
    ∙ ap (λ n. bit_xor p n) (sym (xor_assoc q r s) ∙ ap (λ n. bit_xor n s) (xor_comm q r) ∙ xor_assoc r q s)
    ∙ sym (xor_assoc p r (bit_xor q s))

-- x · b without a test
reduced : (b : ℕ) → b < 256 → times_x b ≡ bit_xor (2 * b) (b / 128 * 283)
reduced b lt =
    elim (cases_lt b 128) [
      | inl low ↦
          let test : nat_lt b 128 ≡ true = lt-ltb _ _ low in
          let none : b / 128 * 283 ≡ 0 = omega arith in
          rw (test, none) (sym (xor_zero_r (2 * b)))
      | inr high ↦
          let test : nat_lt b 128 ≡ false = le-ltb _ _ high in
          let one : b / 128 * 283 ≡ 283 = omega arith in
          rw (test, one) refl
    ]

below_two : (p : ℕ) → p < 2 → (p ≡ 0) ⊎ (p ≡ 1)
below_two zero lt = inl refl
below_two (suc p) lt = inr (omega arith)

bits_times : (p q : ℕ) → p < 2 → q < 2 → bit_xor p q * 283 ≡ bit_xor (p * 283) (q * 283)
bits_times p q lp lq =
    elim (below_two p lp) [
      | inl e ↦ elim (below_two q lq) [ inl f ↦ rw (e, f) refl | inr f ↦ rw (e, f) refl ]
      | inr e ↦ elim (below_two q lq) [ inl f ↦ rw (e, f) refl | inr f ↦ rw (e, f) refl ]
    ]

doubled : (x y : ℕ) → 2 * bit_xor x y ≡ bit_xor (2 * x) (2 * y)
doubled x y =
    let a : x * 2 + 0 ≡ 2 * x = omega arith in
    let b : y * 2 + 0 ≡ 2 * y = omega arith in
    let c : bit_xor x y * 2 + 0 ≡ 2 * bit_xor x y = omega arith in
    sym (rw (a, b, c) at (xor_block 1 x y 0 0 (omega arith) (omega arith)))

times_x_xor : (x y : ℕ) → x < 256 → y < 256 → times_x (bit_xor x y) ≡ bit_xor (times_x x) (times_x y)
times_x_xor x y lx ly =
    let hx : x / 128 < 2 = omega arith in
    let hy : y / 128 < 2 = omega arith in
    rw (reduced (bit_xor x y) (xor_lt 8 x y lx ly), reduced x lx, reduced y ly, doubled x y, xor_shr x y 7, bits_times (x / 128) (y / 128) hx hy)
    (interchange (2 * x) (2 * y) (x / 128 * 283) (y / 128 * 283))

pub times_x-lt : (x : ℕ) → x < 256 → times_x x < 256
unfolding all_below
times_x-lt x lt = ltb-true (times_x x) 256 (below (λ k. nat_lt (times_x k) 256) 256 x refl lt)

bit_times : (p x y : ℕ) → p < 2 → p * bit_xor x y ≡ bit_xor (p * x) (p * y)
bit_times p x y lt =
    elim (below_two p lt) [
      | inl e ↦ rw (e, zero-mul (bit_xor x y), zero-mul x, zero-mul y) refl
      | inr e ↦ rw (e, one-mul (bit_xor x y), one-mul x, one-mul y) refl
    ]

product_xor : (n a x y : ℕ) → x < 256 → y < 256 → product n a (bit_xor x y) ≡ bit_xor (product n a x) (product n a y)
unfolding product
product_xor zero a x y lx ly = refl
product_xor (suc n) a x y lx ly =
    rw (times_x_xor x y lx ly, product_xor n (a / 2) (times_x x) (times_x y) (times_x-lt x lx) (times_x-lt y ly), bit_times (a % 2) x y (omega arith))
    (interchange (a % 2 * x) (a % 2 * y) (product n (a / 2) (times_x x)) (product n (a / 2) (times_x y)))

pub times_xor : (a x y : ℕ) → x < 256 → y < 256 → times a (bit_xor x y) ≡ bit_xor (times a x) (times a y)
unfolding times
times_xor a x y lx ly = product_xor 8 a x y lx ly

bit_times-lt : (p x : ℕ) → p < 2 → x < 256 → p * x < 256
bit_times-lt p x lp lx =
    elim (below_two p lp) [
      | inl e ↦ rw (e, zero-mul x) (omega arith)
      | inr e ↦ rw (e, one-mul x) lx
    ]

product-lt : (n a x : ℕ) → x < 256 → product n a x < 256
unfolding product
product-lt zero a x lx = omega arith
product-lt (suc n) a x lx = xor_lt 8 (a % 2 * x) (product n (a / 2) (times_x x)) (bit_times-lt (a % 2) x (omega arith) lx) (product-lt n (a / 2) (times_x x) (times_x-lt x lx))

pub times-lt : (a x : ℕ) → x < 256 → times a x < 256
unfolding times
times-lt a x lx = product-lt 8 a x lx

pub times_1 : (b : ℕ) → times 1 b ≡ b
unfolding product times
times_1 b = simp (one-mul, zero-mul, xor_zero_r)

-- ---- columns

pub combined-lt : (k0 k1 k2 k3 a b c d : ℕ) → a < 256 → b < 256 → c < 256 → d < 256 → combined k0 k1 k2 k3 a b c d < 256
combined-lt k0 k1 k2 k3 a b c d pa pb pc pd =
    xor_lt 8 _ _ (xor_lt 8 _ _ (times-lt k0 a pa) (times-lt k1 b pb)) (xor_lt 8 _ _ (times-lt k2 c pc) (times-lt k3 d pd))

pub combined_xor : (k0 k1 k2 k3 a b c d e f g h : ℕ) → a < 256 → b < 256 → c < 256 → d < 256 → e < 256 → f < 256 → g < 256 → h < 256
    → combined k0 k1 k2 k3 (bit_xor a e) (bit_xor b f) (bit_xor c g) (bit_xor d h) ≡ bit_xor (combined k0 k1 k2 k3 a b c d) (combined k0 k1 k2 k3 e f g h)
combined_xor k0 k1 k2 k3 a b c d e f g h pa pb pc pd pe pf pg ph =
    rw (
      times_xor k0 a e pa pe,
      times_xor k1 b f pb pf,
      times_xor k2 c g pc pg,
      times_xor k3 d h pd ph,
      interchange (times k0 a) (times k0 e) (times k1 b) (times k1 f),
      interchange (times k2 c) (times k2 g) (times k3 d) (times k3 h),
    )
    (interchange (bit_xor (times k0 a) (times k1 b)) (bit_xor (times k0 e) (times k1 f)) (bit_xor (times k2 c) (times k3 d)) (bit_xor (times k2 g) (times k3 h)))
