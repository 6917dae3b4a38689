-- One turn of the loop that seals one block in ten.
use Rattle.std.proofs.Common.{◌≡◌, ℕ, zero, suc, ◌+◌, ◌-◌, ◌*◌, ◌/◌, ◌%◌, ◌<◌, ◌≤◌, ◌⊎◌, List, length, get_or, take, drop, refl, sym, ap, ◌∙◌, arith, inl, inr}
use Rattle.std.proofs.lemmas.Bool.{cases_lt}
use Rattle.std.proofs.lemmas.List.{drop-take, drop-drop, take_all}
use Rattle.std.proofs.lemmas.Nat.{mod-mul-add}
use Rattle.std.proofs.lemmas.Slice.{take-put_mid_below, drop-put_mid, between-put_mid}
use borrow.Rule.Slice.PartMut.{put_mid}
use Rattle.aes128.specs.Cipher.{cipher}
use Rattle.ctr_cbc.specs.Blocks.{block, exclusive_or}
use Rattle.ctr_cbc.specs.Chain.{block_before, sealed_block}
use Rattle.ctr_cbc.proofs.StreamLemmas.{before, after}
use Rattle.seal_media.specs.Views.{tenth, tenth_before, AreTenthsSealed}

tenth_kept : (q a : ℕ) (xs ys : List ℕ) → q * 160 + 16 ≤ a → a ≤ length xs → tenth (put_mid a 16 xs ys) q ≡ tenth xs q
tenth_kept q a xs ys low le =
    sym (drop-take (q * 160) 16 (put_mid a 16 xs ys)) ∙ ap (λ (zs : List ℕ). drop (q * 160) zs) (take-put_mid_below a 16 xs ys (q * 160 + 16) low le) ∙ drop-take (q * 160) 16 xs

tenth_put : (r : ℕ) (xs ys : List ℕ) → r * 160 ≤ length xs → length ys ≡ 16 → tenth (put_mid (r * 160) 16 xs ys) r ≡ ys
tenth_put r xs ys le len =
    let span : r * 160 + 16 - r * 160 ≡ 16 = omega arith in
    rw span at (between-put_mid (r * 160) 16 xs ys (r * 160 + 16) le (len ∙ sym span))

drop_further : (k n : ℕ) (xs ys : List ℕ) → drop k xs ≡ drop k ys → drop (k + n) xs ≡ drop (k + n) ys
drop_further k n xs ys e = sym (drop-drop n k xs) ∙ ap (λ (zs : List ℕ). drop n zs) e ∙ drop-drop n k ys

rest_kept : (r : ℕ) (xs old ys : List ℕ) → r * 160 ≤ length xs → length ys ≡ 16 → drop (r * 160) xs ≡ drop (r * 160) old
    → drop ((r + 1) * 160) (put_mid (r * 160) 16 xs ys) ≡ drop ((r + 1) * 160) old
rest_kept r xs old ys le len rest =
    let next : (r + 1) * 160 ≡ r * 160 + 160 = omega arith in
    rw next (drop-put_mid (r * 160) 16 xs ys (r * 160 + 160) (omega arith) le len ∙ drop_further (r * 160) 160 xs old rest)

before_kept : (iv : List ℕ) (q a : ℕ) (xs ys : List ℕ) → q * 160 ≤ a → a ≤ length xs → tenth_before iv (put_mid a 16 xs ys) q ≡ tenth_before iv xs q
before_kept iv zero a xs ys low le = refl
before_kept iv (suc q) a xs ys low le = tenth_kept q a xs ys (omega arith) le

-- byte i is behind turn r, or in no first block of ten
abbrev pub Outside : ℕ → ℕ → Type 0
Outside r i = (r * 160 ≤ i) ⊎ (16 ≤ i % 160)

left_before : (r : ℕ) (xs old ys : List ℕ) (i : ℕ) → r * 160 + 16 ≤ length xs → length ys ≡ 16
    → ((i : ℕ) → Outside r i → get_or xs i 0 ≡ get_or old i 0) → i < r * 160 → Outside (r + 1) i → get_or (put_mid (r * 160) 16 xs ys) i 0 ≡ get_or old i 0
left_before r xs old ys i le len done low out = before (r * 160) 16 xs ys i (omega arith) low ∙ done i (elim out [
  | inl past ↦ absurd (omega arith)
  | inr apart ↦ inr apart
])

left_behind : (r : ℕ) (xs old ys : List ℕ) (i : ℕ) → r * 160 + 16 ≤ length xs → length ys ≡ 16
    → ((i : ℕ) → Outside r i → get_or xs i 0 ≡ get_or old i 0) → r * 160 + 16 ≤ i → get_or (put_mid (r * 160) 16 xs ys) i 0 ≡ get_or old i 0
left_behind r xs old ys i le len done past = after (r * 160) 16 xs ys i (omega arith) len past ∙ done i (inl (omega arith))

in_block : (r i : ℕ) → r * 160 ≤ i → i < r * 160 + 16 → Outside (r + 1) i → ⊥
in_block r i low high out =
    let there : r * 160 + (i - r * 160) ≡ i = omega arith in
    let rest : i % 160 ≡ i - r * 160 = rw there at (mod-mul-add r 160 (i - r * 160) (omega arith)) in
    elim out [
      | inl past ↦ omega arith
      | inr apart ↦ omega (arith, rest)
    ]

left_more : (r : ℕ) (xs old ys : List ℕ) → r * 160 + 16 ≤ length xs → length ys ≡ 16
    → ((i : ℕ) → Outside r i → get_or xs i 0 ≡ get_or old i 0) → (i : ℕ) → Outside (r + 1) i → get_or (put_mid (r * 160) 16 xs ys) i 0 ≡ get_or old i 0
left_more r xs old ys le len done i out = elim (cases_lt i (r * 160)) [
  | inl low ↦ left_before r xs old ys i le len done low out
  | inr high ↦ elim (cases_lt i (r * 160 + 16)) [
    | inl inside ↦ absurd (in_block r i high inside out)
    | inr past ↦ left_behind r xs old ys i le len done past
  ]
]

pub next_tenth : (key iv xs old ys before : List ℕ) (r w : ℕ) → r * 160 + 16 ≤ length xs → w ≡ 16
    → before ≡ tenth_before iv xs r
    → ((q : ℕ) → q < r → tenth xs q ≡ cipher key (exclusive_or (tenth old q) (tenth_before iv xs q)))
    → drop (r * 160) xs ≡ drop (r * 160) old
    → ((i : ℕ) → Outside r i → get_or xs i 0 ≡ get_or old i 0)
    → ys ≡ cipher key (exclusive_or (take w (drop (r * 160) xs)) before) → length ys ≡ 16
    → (ys ≡ tenth_before iv (put_mid (r * 160) w xs ys) (suc r))
    × ((q : ℕ) → q < r + 1 → tenth (put_mid (r * 160) w xs ys) q ≡ cipher key (exclusive_or (tenth old q) (tenth_before iv (put_mid (r * 160) w xs ys) q)))
    × (drop ((r + 1) * 160) (put_mid (r * 160) w xs ys) ≡ drop ((r + 1) * 160) old)
    × ((i : ℕ) → Outside (r + 1) i → get_or (put_mid (r * 160) w xs ys) i 0 ≡ get_or old i 0)
next_tenth key iv xs old ys before r w le wide before-is done rest left ys-is len =
    let same : tenth xs r ≡ tenth old r = ap (λ (zs : List ℕ). take 16 zs) rest in
    rw wide (
      sym (tenth_put r xs ys (omega arith) len),
      λ q lt. elim (cases_lt q r) [
        | inl low ↦ rw (before_kept iv q (r * 160) xs ys (omega arith) (omega arith)) (tenth_kept q (r * 160) xs ys (omega arith) (omega arith) ∙ done q low)
        | inr high ↦
            let here : q ≡ r = omega arith in
            let sealed : ys ≡ cipher key (exclusive_or (tenth old r) (tenth_before iv xs r)) = rw (wide, before-is, same) at ys-is in
            rw (here, before_kept iv r (r * 160) xs ys (omega arith) (omega arith)) (tenth_put r xs ys (omega arith) len ∙ sealed)
      ],
      rest_kept r xs old ys (omega arith) len rest,
      left_more r xs old ys le len left,
    )

-- a chain over one block
pub one_block : (key iv part new : List ℕ) → length part ≡ 16 → length new ≡ 16
    → ((r : ℕ) → r * 16 < length part → block new r ≡ sealed_block key iv part new r) → new ≡ cipher key (exclusive_or part iv)
one_block key iv part new part16 new16 each =
    let first : take 16 new ≡ cipher key (exclusive_or (take 16 part) iv) = each 0 (omega (arith, part16)) in
    rw (take_all 16 new (omega (arith, new16)), take_all 16 part (omega (arith, part16))) at first

pub one_last : (iv part new last : List ℕ) → length part ≡ 16 → length new ≡ 16 → last ≡ block_before iv new (length part / 16) → last ≡ new
one_last iv part new last part16 new16 is =
    let first : last ≡ take 16 new = rw part16 at is in
    first ∙ take_all 16 new (omega (arith, new16))

-- a block that is not whole stands behind the last turn
past_end : (n size i : ℕ) → (size / 16 + 9) / 10 ≤ n → n ≤ (size / 16 + 9) / 10 → (i % 160 < 16 → size < i / 160 * 160 + 16) → Outside n i
past_end n size i le ge short = elim (cases_lt (i % 160) 16) [
  | inl low ↦ let cut = short low in inl (omega arith)
  | inr high ↦ inr high
]

pub all_tenths : (key iv xs old : List ℕ) (n : ℕ) → length xs ≡ length old → (length old / 16 + 9) / 10 ≤ n → n ≤ (length old / 16 + 9) / 10
    → ((q : ℕ) → q < n → tenth xs q ≡ cipher key (exclusive_or (tenth old q) (tenth_before iv xs q)))
    → ((i : ℕ) → Outside n i → get_or xs i 0 ≡ get_or old i 0)
    → AreTenthsSealed key iv old xs
all_tenths key iv xs old n len le ge done left = record {
  size = len;
  sealed = λ r fits. done r (omega arith);
  left = λ i short. left i (past_end n (length old) i le ge short);
}
