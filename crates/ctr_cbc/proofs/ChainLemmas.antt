-- One turn of the loops over the blocks of a chain.
use Rattle.std.proofs.Common.{◌≡◌, ℕ, zero, suc, ◌+◌, ◌*◌, ◌<◌, ◌≤◌, List, length, take, drop, refl, sym, ap, ◌∙◌, arith, inl, inr}
use Rattle.std.proofs.lemmas.Bool.{cases_lt}
use borrow.Rule.Slice.PartMut.{put_mid}
use Rattle.aes128.specs.Cipher.{cipher}
use Rattle.aes128.specs.InverseCipher.{inv_cipher}
use Rattle.ctr_cbc.specs.Blocks.{block, exclusive_or}
use Rattle.ctr_cbc.specs.Chain.{block_before, opened_block, sealed_block}
use Rattle.ctr_cbc.proofs.BlockLemmas.{block_kept, block_put, rest_kept}

pub next_opened : (key iv xs old ys before : List ℕ) (r w : ℕ) → r * 16 + 16 ≤ length xs → w ≡ 16
    → before ≡ block_before iv old r
    → ((q : ℕ) → q < r → block xs q ≡ opened_block key iv old q)
    → drop (r * 16) xs ≡ drop (r * 16) old
    → ys ≡ exclusive_or (inv_cipher key (take w (drop (r * 16) xs))) before → length ys ≡ 16
    → ((q : ℕ) → q < r + 1 → block (put_mid (r * 16) w xs ys) q ≡ opened_block key iv old q)
    × (drop ((r + 1) * 16) (put_mid (r * 16) w xs ys) ≡ drop ((r + 1) * 16) old)
next_opened key iv xs old ys before r w le wide before-is done rest ys-is len =
    let same : block xs r ≡ block old r = ap (λ (zs : List ℕ). take 16 zs) rest in
    rw wide (
      λ q lt. elim (cases_lt q r) [
        | inl low ↦ block_kept q (r * 16) xs ys (omega arith) (omega arith) ∙ done q low
        | inr high ↦
            let here : q ≡ r = omega arith in
            let clear : ys ≡ opened_block key iv old r = rw (wide, before-is, same) at ys-is in
            rw here (block_put r xs ys (omega arith) len ∙ clear)
      ],
      rest_kept r xs old ys (omega arith) len rest,
    )

-- a block that is overwritten leaves what it and the blocks below it are chained to
before_kept : (iv : List ℕ) (q a : ℕ) (xs ys : List ℕ) → q * 16 ≤ a → a ≤ length xs → block_before iv (put_mid a 16 xs ys) q ≡ block_before iv xs q
before_kept iv zero a xs ys low le = refl
before_kept iv (suc q) a xs ys low le = block_kept q a xs ys (omega arith) le

pub next_sealed : (key iv xs old ys before : List ℕ) (r w : ℕ) → r * 16 + 16 ≤ length xs → w ≡ 16
    → before ≡ block_before iv xs r
    → ((q : ℕ) → q < r → block xs q ≡ sealed_block key iv old xs q)
    → drop (r * 16) xs ≡ drop (r * 16) old
    → ys ≡ cipher key (exclusive_or (take w (drop (r * 16) xs)) before) → length ys ≡ 16
    → (ys ≡ block_before iv (put_mid (r * 16) w xs ys) (suc r))
    × ((q : ℕ) → q < r + 1 → block (put_mid (r * 16) w xs ys) q ≡ sealed_block key iv old (put_mid (r * 16) w xs ys) q)
    × (drop ((r + 1) * 16) (put_mid (r * 16) w xs ys) ≡ drop ((r + 1) * 16) old)
next_sealed key iv xs old ys before r w le wide before-is done rest ys-is len =
    let same : block xs r ≡ block old r = ap (λ (zs : List ℕ). take 16 zs) rest in
    rw wide (
      sym (block_put r xs ys (omega arith) len),
      λ q lt. elim (cases_lt q r) [
        | inl low ↦ rw (before_kept iv q (r * 16) xs ys (omega arith) (omega arith)) (block_kept q (r * 16) xs ys (omega arith) (omega arith) ∙ done q low)
        | inr high ↦
            let here : q ≡ r = omega arith in
            let sealed : ys ≡ cipher key (exclusive_or (block old r) (block_before iv xs r)) = rw (wide, before-is, same) at ys-is in
            rw (here, before_kept iv r (r * 16) xs ys (omega arith) (omega arith)) (block_put r xs ys (omega arith) len ∙ sealed)
      ],
      rest_kept r xs old ys (omega arith) len rest,
    )
