-- The bytes of blocks, and blocks of a list that was overwritten at one of them.
use Rattle.std.proofs.Common.{◌≡◌, ℕ, ◌+◌, ◌-◌, ◌*◌, ◌<◌, ◌≤◌, List, length, get_or, drop, bit_xor, sym, ap, ◌∙◌, arith, get_or-take, get_or-drop}
use Rattle.std.proofs.lemmas.List.{drop-take, drop-drop}
use Rattle.std.proofs.lemmas.List.FromFn.{get_or-map-range_with_len, length-map-range_with_len}
use Rattle.std.proofs.lemmas.Slice.{take-put_mid_below, drop-put_mid, between-put_mid}
use borrow.Rule.Slice.PartMut.{put_mid}
use Rattle.ctr_cbc.specs.Blocks.{block, exclusive_or}

pub byte_of_block : (bytes : List ℕ) (r i : ℕ) → i < 16 → get_or (block bytes r) i 0 ≡ get_or bytes (r * 16 + i) 0
byte_of_block bytes r i lt = get_or-take 16 (drop (r * 16) bytes) i 0 lt ∙ get_or-drop (r * 16) bytes i 0

pub byte_of_xor : (a b : List ℕ) (i : ℕ) → i < 16 → get_or (exclusive_or a b) i 0 ≡ bit_xor (get_or a i 0) (get_or b i 0)
unfolding exclusive_or
byte_of_xor a b i lt = get_or-map-range_with_len (λ k. bit_xor (get_or a k 0) (get_or b k 0)) 0 16 i i 0 lt (omega arith)

pub length_of_xor : (a b : List ℕ) → length (exclusive_or a b) ≡ 16
unfolding exclusive_or
length_of_xor a b = length-map-range_with_len (λ k. bit_xor (get_or a k 0) (get_or b k 0)) 0 16

pub block_kept : (q a : ℕ) (xs ys : List ℕ) → q * 16 + 16 ≤ a → a ≤ length xs → block (put_mid a 16 xs ys) q ≡ block xs q
block_kept q a xs ys low le =
    sym (drop-take (q * 16) 16 (put_mid a 16 xs ys)) ∙ ap (λ (zs : List ℕ). drop (q * 16) zs) (take-put_mid_below a 16 xs ys (q * 16 + 16) low le) ∙ drop-take (q * 16) 16 xs

pub block_put : (r : ℕ) (xs ys : List ℕ) → r * 16 ≤ length xs → length ys ≡ 16 → block (put_mid (r * 16) 16 xs ys) r ≡ ys
block_put r xs ys le len =
    let span : r * 16 + 16 - r * 16 ≡ 16 = omega arith in
    rw span at (between-put_mid (r * 16) 16 xs ys (r * 16 + 16) le (len ∙ sym span))

drop_further : (k : ℕ) (xs ys : List ℕ) → drop k xs ≡ drop k ys → drop (k + 16) xs ≡ drop (k + 16) ys
drop_further k xs ys e = sym (drop-drop 16 k xs) ∙ ap (λ (zs : List ℕ). drop 16 zs) e ∙ drop-drop 16 k ys

-- what is behind block r stays, where it was old's
pub rest_kept : (r : ℕ) (xs old ys : List ℕ) → r * 16 ≤ length xs → length ys ≡ 16 → drop (r * 16) xs ≡ drop (r * 16) old
    → drop ((r + 1) * 16) (put_mid (r * 16) 16 xs ys) ≡ drop ((r + 1) * 16) old
rest_kept r xs old ys le len rest =
    let next : (r + 1) * 16 ≡ r * 16 + 16 = omega arith in
    rw next (drop-put_mid (r * 16) 16 xs ys (r * 16 + 16) (omega arith) le len ∙ drop_further (r * 16) xs old rest)
