-- The matrices of MixColumns and InvMixColumns undo each other.
use Rattle.std.proofs.Common.{◌≡◌, ℕ, ◌<◌, List, bit_xor, refl, arith, ◌∙◌, true, eqb}
use Rattle.std.specs.Int.Bits.{xor_zero_r, xor_zero_l}
use Rattle.aes128.specs.Bytes.{AreBytes}
use Rattle.aes128.specs.Field.{product, times}
use Rattle.aes128.specs.State.{at, state_of}
use Rattle.aes128.specs.Cipher.{combined, mixed, mix_columns}
use Rattle.aes128.specs.InverseCipher.{inv_mix_columns}
use Rattle.aes128.proofs.Below.{all_below, same_below}
use Rattle.aes128.proofs.Linear.{combined-lt, combined_xor}

-- a map of a column to a byte that takes sums to sums
record IsLinear (m : ℕ → ℕ → ℕ → ℕ → ℕ) : Type 0 where
  sums : (a b c d e f g h : ℕ) → a < 256 → b < 256 → c < 256 → d < 256 → e < 256 → f < 256 → g < 256 → h < 256
      → m (bit_xor a e) (bit_xor b f) (bit_xor c g) (bit_xor d h) ≡ bit_xor (m a b c d) (m e f g h)
  bytes : (a b c d : ℕ) → a < 256 → b < 256 → c < 256 → d < 256 → m a b c d < 256

row_linear : (k0 k1 k2 k3 : ℕ) → IsLinear (combined k0 k1 k2 k3)
row_linear k0 k1 k2 k3 = record { sums = combined_xor k0 k1 k2 k3; bytes = combined-lt k0 k1 k2 k3 }

-- the first byte of a column after the matrix of the row n and then that of the row m
abbrev composed : (ℕ → ℕ → ℕ → ℕ → ℕ) → (ℕ → ℕ → ℕ → ℕ → ℕ) → ℕ → ℕ → ℕ → ℕ → ℕ
composed m n a b c d = m (n a b c d) (n b c d a) (n c d a b) (n d a b c)

composed_xor : (m n : ℕ → ℕ → ℕ → ℕ → ℕ) → IsLinear m → IsLinear n → (a b c d e f g h : ℕ)
    → a < 256 → b < 256 → c < 256 → d < 256 → e < 256 → f < 256 → g < 256 → h < 256
    → composed m n (bit_xor a e) (bit_xor b f) (bit_xor c g) (bit_xor d h) ≡ bit_xor (composed m n a b c d) (composed m n e f g h)
composed_xor m n outer inner a b c d e f g h pa pb pc pd pe pf pg ph =
    rw (
      inner.sums a b c d e f g h pa pb pc pd pe pf pg ph,
      inner.sums b c d a f g h e pb pc pd pa pf pg ph pe,
      inner.sums c d a b g h e f pc pd pa pb pg ph pe pf,
      inner.sums d a b c h e f g pd pa pb pc ph pe pf pg,
    )
    (outer.sums (n a b c d) (n b c d a) (n c d a b) (n d a b c) (n e f g h) (n f g h e) (n g h e f) (n h e f g)
    (inner.bytes a b c d pa pb pc pd) (inner.bytes b c d a pb pc pd pa) (inner.bytes c d a b pc pd pa pb) (inner.bytes d a b c pd pa pb pc)
    (inner.bytes e f g h pe pf pg ph) (inner.bytes f g h e pf pg ph pe) (inner.bytes g h e f pg ph pe pf) (inner.bytes h e f g ph pe pf pg))

-- it is enough to compute the columns that have one byte
undone : (m n : ℕ → ℕ → ℕ → ℕ → ℕ) → IsLinear m → IsLinear n
    → all_below (λ k. eqb (composed m n k 0 0 0) k) 256 ≡ true
    → all_below (λ k. eqb (composed m n 0 k 0 0) 0) 256 ≡ true
    → all_below (λ k. eqb (composed m n 0 0 k 0) 0) 256 ≡ true
    → all_below (λ k. eqb (composed m n 0 0 0 k) 0) 256 ≡ true
    → (a b c d : ℕ) → a < 256 → b < 256 → c < 256 → d < 256 → composed m n a b c d ≡ a
undone m n outer inner one two three four a b c d pa pb pc pd =
    let z : 0 < 256 = omega arith in
    let first : composed m n a b c d ≡ bit_xor (composed m n a 0 0 0) (composed m n 0 b c d) =
    rw (xor_zero_r a, xor_zero_l b, xor_zero_l c, xor_zero_l d) at (composed_xor m n outer inner a 0 0 0 0 b c d pa z z z z pb pc pd) in
    let second : composed m n 0 b c d ≡ bit_xor (composed m n 0 b 0 0) (composed m n 0 0 c d) =
    rw (xor_zero_r b, xor_zero_l c, xor_zero_l d) at (composed_xor m n outer inner 0 b 0 0 0 0 c d z pb z z z z pc pd) in
    let third : composed m n 0 0 c d ≡ bit_xor (composed m n 0 0 c 0) (composed m n 0 0 0 d) =
    rw (xor_zero_r c, xor_zero_l d) at (composed_xor m n outer inner 0 0 c 0 0 0 0 d z z pc z z z z pd) in
    first ∙ rw (
      second,
      third,
      same_below (λ k. composed m n k 0 0 0) (λ k. k) 256 a one pa,
      same_below (λ k. composed m n 0 k 0 0) (λ k. 0) 256 b two pb,
      same_below (λ k. composed m n 0 0 k 0) (λ k. 0) 256 c three pc,
      same_below (λ k. composed m n 0 0 0 k) (λ k. 0) 256 d four pd,
    ) (xor_zero_r a)

inverse_first : (a b c d : ℕ) → a < 256 → b < 256 → c < 256 → d < 256 → composed (combined 14 11 13 9) (combined 2 3 1 1) a b c d ≡ a
unfolding all_below product times
inverse_first = undone (combined 14 11 13 9) (combined 2 3 1 1) (row_linear 14 11 13 9) (row_linear 2 3 1 1) refl refl refl refl

inverse_last : (a b c d : ℕ) → a < 256 → b < 256 → c < 256 → d < 256 → composed (combined 2 3 1 1) (combined 14 11 13 9) a b c d ≡ a
unfolding all_below product times
inverse_last = undone (combined 2 3 1 1) (combined 14 11 13 9) (row_linear 2 3 1 1) (row_linear 14 11 13 9) refl refl refl refl

columns_back : (j0 j1 j2 j3 k0 k1 k2 k3 : ℕ)
    → ((a b c d : ℕ) → a < 256 → b < 256 → c < 256 → d < 256 → composed (combined j0 j1 j2 j3) (combined k0 k1 k2 k3) a b c d ≡ a)
    → (s : List ℕ) → AreBytes s → mixed j0 j1 j2 j3 (mixed k0 k1 k2 k3 s) ≡ state_of (λ r c. at s r c)
columns_back j0 j1 j2 j3 k0 k1 k2 k3 back s fits =
    rw (
      back (at s 0 0) (at s 1 0) (at s 2 0) (at s 3 0) (fits.each _) (fits.each _) (fits.each _) (fits.each _),
      back (at s 1 0) (at s 2 0) (at s 3 0) (at s 0 0) (fits.each _) (fits.each _) (fits.each _) (fits.each _),
      back (at s 2 0) (at s 3 0) (at s 0 0) (at s 1 0) (fits.each _) (fits.each _) (fits.each _) (fits.each _),
      back (at s 3 0) (at s 0 0) (at s 1 0) (at s 2 0) (fits.each _) (fits.each _) (fits.each _) (fits.each _),
      back (at s 0 1) (at s 1 1) (at s 2 1) (at s 3 1) (fits.each _) (fits.each _) (fits.each _) (fits.each _),
      back (at s 1 1) (at s 2 1) (at s 3 1) (at s 0 1) (fits.each _) (fits.each _) (fits.each _) (fits.each _),
      back (at s 2 1) (at s 3 1) (at s 0 1) (at s 1 1) (fits.each _) (fits.each _) (fits.each _) (fits.each _),
      back (at s 3 1) (at s 0 1) (at s 1 1) (at s 2 1) (fits.each _) (fits.each _) (fits.each _) (fits.each _),
      back (at s 0 2) (at s 1 2) (at s 2 2) (at s 3 2) (fits.each _) (fits.each _) (fits.each _) (fits.each _),
      back (at s 1 2) (at s 2 2) (at s 3 2) (at s 0 2) (fits.each _) (fits.each _) (fits.each _) (fits.each _),
      back (at s 2 2) (at s 3 2) (at s 0 2) (at s 1 2) (fits.each _) (fits.each _) (fits.each _) (fits.each _),
      back (at s 3 2) (at s 0 2) (at s 1 2) (at s 2 2) (fits.each _) (fits.each _) (fits.each _) (fits.each _),
      back (at s 0 3) (at s 1 3) (at s 2 3) (at s 3 3) (fits.each _) (fits.each _) (fits.each _) (fits.each _),
      back (at s 1 3) (at s 2 3) (at s 3 3) (at s 0 3) (fits.each _) (fits.each _) (fits.each _) (fits.each _),
      back (at s 2 3) (at s 3 3) (at s 0 3) (at s 1 3) (fits.each _) (fits.each _) (fits.each _) (fits.each _),
      back (at s 3 3) (at s 0 3) (at s 1 3) (at s 2 3) (fits.each _) (fits.each _) (fits.each _) (fits.each _),
    ) refl

pub unmixed : (s : List ℕ) → AreBytes s → inv_mix_columns (mix_columns s) ≡ state_of (λ r c. at s r c)
unfolding inv_mix_columns mix_columns
unmixed s fits = columns_back 14 11 13 9 2 3 1 1 inverse_first s fits

pub remixed : (s : List ℕ) → AreBytes s → mix_columns (inv_mix_columns s) ≡ state_of (λ r c. at s r c)
unfolding inv_mix_columns mix_columns
remixed s fits = columns_back 2 3 1 1 14 11 13 9 inverse_last s fits
