-- Opening takes sealing back, byte by byte.
use Rattle.std.proofs.Common.{◌≡◌, ℕ, zero, suc, ◌+◌, ◌-◌, ◌*◌, ◌/◌, ◌%◌, ◌<◌, ◌≤◌, Bool, true, false, List, [], ◌∷◌, length, get_or, take, drop, bit_xor, refl, sym, ap, ◌∙◌, arith, inl, inr, rules, length-take, length-drop, get_or-take, get_or-drop}
use Rattle.std.specs.Prelude.{◌&&◌, if◌then◌else◌, min, nat_lt, Some}
use Rattle.std.proofs.lemmas.Bool.{cases_lt, lt-ltb, le-ltb}
use Rattle.std.proofs.lemmas.List.{drop-drop, get_or_past, take_all, places}
use Rattle.std.proofs.lemmas.Slice.{between-put_mid}
use borrow.Rule.Slice.PartMut.{put_mid}
use Rattle.ctr_cbc.proofs.StreamLemmas.{before}
use Rattle.std.proofs.lemmas.List.FromFn.{fill_by_all}
use Rattle.eme_types.specs.declared.sample.Iv.{Iv}
use Rattle.eme_types.specs.declared.sample.Iv.TheVariants.{Sixteen}
use Rattle.eme_types.specs.declared.sample.Protect.{Protect}
use Rattle.eme_types.specs.declared.sample.Scheme.{Scheme}
use Rattle.eme_types.specs.declared.sample.Scheme.TheVariants.{Cenc, Cbcs}
use Rattle.eme_types.specs.declared.sample.Sub.{Sub}
use Rattle.aes128.specs.Bytes.{AreBytes}
use Rattle.aes128.specs.Cipher.{cipher}
use Rattle.aes128.specs.InverseCipher.{inv_cipher}
use Rattle.aes128.proofs.Steps.{xor_twice}
use Rattle.ctr_cbc.specs.Blocks.{exclusive_or}
use Rattle.ctr_cbc.specs.KeyStream.{stream_byte}
use Rattle.ctr_cbc.proofs.BackLemmas.{opened_again}
use Rattle.ctr_cbc.proofs.BlockLemmas.{byte_of_xor}
use Rattle.pattern_map.specs.ByteClasses.{ByteClass, Clear, Block, is_protected, is_encrypted, rank, block_place, protected_class}
use Rattle.pattern_map.proofs.SpotLemmas.{spot_clear, spot_part}
use Rattle.pattern_map.proofs.CountLemmas.{count, count_more, count_same}
use Rattle.pattern_map.proofs.BlockLemmas.{block_stands}
use Rattle.sample_crypt.specs.Decryption.{iv_bytes, encrypted_block, chained_to, decryption_of}
use Rattle.sample_crypt.proofs.Opening.{clear_byte}
use Rattle.seal_media.specs.declared.plan.SealPlan.{SealPlan}
use Rattle.seal_media.specs.Sealed.{iv_of, sealed_protect}
use Rattle.seal_media.specs.Views.{tenth, tenth_before, AreTenthsSealed, AreStreamed, IsPartSealed}

-- a list whose every byte is opened to that of another
opened_to : (key : List ℕ) (p : Protect) (was now : List ℕ) → length now ≡ length was → ((i : ℕ) → i < length was → get_or was i 0 ≡ clear_byte key p now i) → decryption_of key (Some p) now ≡ was
opened_to key p was now len each = sym (fill_by_all (clear_byte key p now) was (length now) 0 (sym len) (λ i lt. each i (omega (arith, len))))

-- the bytes of the lead, and then those of the protected part
by_part : (P : ℕ → Type 0) (c d n : ℕ) → c + d ≡ n → ((i : ℕ) → i < c → P i) → ((j : ℕ) → j < d → P (c + j)) → (i : ℕ) → i < n → P i
by_part P c d n sum lead part i lt = elim (cases_lt i c) [
  | inl low ↦ lead i low
  | inr high ↦
      let there : c + (i - c) ≡ i = omega arith in
      rw there at (part (i - c) (omega arith))
]

abbrev pair : ℕ → ℕ → Sub
pair c d = record { clear = c; prot = d }

-- ---- the key stream

-- the protected bytes are counted from the end of the lead
counted : (c d j : ℕ) → j < d → count (is_protected (pair c d ∷ [])) (c + j) ≡ j
counted c d j lt =
    let test = is_protected (pair c d ∷ []) in
    let from : 0 + c ≡ c = omega arith in
    let none : count test c ≡ 0 = rw from at (count_same test 0 c (λ k low high. rw (spot_clear 0 (pair c d) [] k (omega arith)) refl)) in
    let more = count_more test c j (λ k low high.
    let there : c + (k - c) ≡ k = omega arith in
    let spot = rw there at (spot_part 0 (pair c d) [] (k - c) (omega arith)) in
    rw spot refl) in
    omega (arith, none, more)

abbrev streamed : List ℕ → Iv → ℕ → ℕ → Protect
streamed kid iv c d = record { scheme = Cenc; kid = kid; iv = iv; crypt = 0; skip = 0; subs = pair c d ∷ [] }

pub stream_opens : (key kid : List ℕ) (iv : Iv) (c d : ℕ) (was now : List ℕ) → c + d ≡ length was → length now ≡ length was
    → ((i : ℕ) → i < c → get_or now i 0 ≡ get_or was i 0) → AreStreamed key (iv_bytes iv) (drop c was) (drop c now)
    → decryption_of key (Some (streamed kid iv c d)) now ≡ was
stream_opens key kid iv c d was now sum len lead part =
    let p = streamed kid iv c d in
    let n : length (drop c was) ≡ d = omega (arith, length-drop c was) in
    opened_to key p was now len (by_part (λ i. get_or was i 0 ≡ clear_byte key p now i) c d (length was) sum
    (λ i lt. rw (spot_clear 0 (pair c d) [] i lt) (sym (lead i lt)))
    (λ j lt.
    let added = rw (get_or-drop c now j 0, get_or-drop c was j 0) at (part.added j (omega (arith, n))) in
    rw (spot_part 0 (pair c d) [] j lt, counted c d j lt, added) (sym (xor_twice (get_or was (c + j) 0) (stream_byte key (iv_bytes iv) j)))))

-- ---- one block in ten

rank_tenth : (r : ℕ) → rank 1 9 (r * 10) ≡ r
rank_tenth zero = refl
rank_tenth (suc r) =
    let test = is_encrypted 1 9 in
    let next : suc r * 10 ≡ r * 10 + 1 + 9 = omega arith in
    let one = count_more test (r * 10) 1 (λ k low high. rw (lt-ltb (k % 10) 1 (omega arith)) refl) in
    let nine = count_same test (r * 10 + 1) 9 (λ k low high. rw (le-ltb (k % 10) 1 (omega arith)) refl) in
    rw next (omega (arith, one, nine, rank_tenth r))

abbrev chained : List ℕ → List ℕ → ℕ → ℕ → Protect
chained kid iv c d = record { scheme = Cbcs; kid = kid; iv = Sixteen iv; crypt = 1; skip = 9; subs = pair c d ∷ [] }

class_tenth : (kid iv : List ℕ) (c d size r o : ℕ) → r * 160 + 16 ≤ d → o < 16 → protected_class Cbcs (chained kid iv c d) size (c + (r * 160 + o)) ≡ Block 0 r o
class_tenth kid iv c d size r o whole lt =
    let block : (r * 160 + o) / 16 ≡ r * 10 = omega arith in
    let place : (r * 160 + o) % 16 ≡ o = omega arith in
    rw (spot_part 0 (pair c d) [] (r * 160 + o) (omega arith), block, place, lt-ltb (r * 10) (d / 16) (omega arith), lt-ltb ((r * 10) % 10) 1 (omega arith), rank_tenth r) refl

not_both : (a b : Bool) (x : ByteClass) → b ≡ false → (if a && b then x else Clear) ≡ Clear
not_both true b x e = rw e refl
not_both false b x e = refl

class_other : (kid iv : List ℕ) (c d size j : ℕ) → j < d → (j % 160 < 16 → d < j / 160 * 160 + 16) → protected_class Cbcs (chained kid iv c d) size (c + j) ≡ Clear
class_other kid iv c d size j lt short = rw (spot_part 0 (pair c d) [] j lt) (elim (cases_lt (j % 160) 16) [
  | inl low ↦ let cut = short low in rw (le-ltb (j / 16) (d / 16) (omega arith)) refl
  | inr high ↦ not_both (nat_lt (j / 16) (d / 16)) (is_encrypted 1 9 (j / 16)) _ (le-ltb (j / 16 % 10) 1 (omega arith))
])

tenth_place : (kid iv : List ℕ) (c d size r : ℕ) → r * 160 + 16 ≤ d → block_place (chained kid iv c d) size 0 r ≡ c + r * 160
tenth_place kid iv c d size r whole =
    let stands = (block_stands Cbcs (chained kid iv c d) size (c + (r * 160 + 0)) 0 r 0 (class_tenth kid iv c d size r 0 whole (omega arith))).0 in
    omega (arith, stands)

tenth_is : (kid iv : List ℕ) (c d r : ℕ) (now : List ℕ) → r * 160 + 16 ≤ d → encrypted_block (chained kid iv c d) now 0 r ≡ tenth (drop c now) r
tenth_is kid iv c d r now whole = rw (tenth_place kid iv c d (length now) r whole) (ap (λ (xs : List ℕ). take 16 xs) (sym (drop-drop (r * 160) c now)))

before_is : (kid iv : List ℕ) (c d r : ℕ) (now : List ℕ) → r * 160 + 16 ≤ d → chained_to (chained kid iv c d) now 0 r ≡ tenth_before iv (drop c now) r
before_is kid iv c d zero now whole = refl
before_is kid iv c d (suc r) now whole = tenth_is kid iv c d r now (omega arith)

piece_bytes : (xs : List ℕ) (k : ℕ) → AreBytes xs → AreBytes (take 16 (drop k xs))
piece_bytes xs k fits = record {
  each = λ i. elim (cases_lt i 16) [
    | inl lt ↦ rw (get_or-take 16 (drop k xs) i 0 lt, get_or-drop k xs i 0) (fits.each (k + i))
    | inr le ↦ rw (get_or_past (take 16 (drop k xs)) i 0 (omega (arith, length-take 16 (drop k xs)))) (omega arith)
  ];
}

before_bytes : (iv now : List ℕ) (r : ℕ) → AreBytes iv → AreBytes now → AreBytes (tenth_before iv now r)
before_bytes iv now zero fi fn = fi
before_bytes iv now (suc r) fi fn = piece_bytes now (r * 160) fn

abbrev Back : Type 0
Back = (key block : List ℕ) → length block ≡ 16 → AreBytes key → AreBytes block → inv_cipher key (cipher key block) ≡ block

whole_block : (xs : List ℕ) (r : ℕ) → r * 160 + 16 ≤ length xs → length (tenth xs r) ≡ 16
whole_block xs r fits = omega (arith, length-take 16 (drop (r * 160) xs), length-drop (r * 160) xs)

-- a sealed block, opened
tenth_opens : Back → (key iv was now : List ℕ) (r : ℕ) → AreBytes key → AreBytes iv → AreBytes was → AreBytes now → AreTenthsSealed key iv was now → r * 160 + 16 ≤ length was
    → exclusive_or (inv_cipher key (tenth now r)) (tenth_before iv now r) ≡ tenth was r
tenth_opens back key iv was now r fk fi fw fn sealed fits =
    let before = tenth_before iv now r in
    let was16 = whole_block was r fits in
    let now16 = whole_block now r (omega (arith, sealed.size)) in
    let all_was = take_all 16 (tenth was r) (omega (arith, was16)) in
    let all_now = take_all 16 (tenth now r) (omega (arith, now16)) in
    let is : take 16 (tenth now r) ≡ cipher key (exclusive_or (take 16 (tenth was r)) before) = rw (all_now, all_was) (sealed.sealed r fits) in
    let opened = opened_again back key before (tenth was r) (tenth now r) 0 fk (before_bytes iv now r fi fn) (piece_bytes was (r * 160) fw) (piece_bytes now (r * 160) fn) (omega (arith, was16)) is in
    rw (all_now, all_was) at opened

tenth_byte : Back → (key iv was now : List ℕ) (r o : ℕ) → AreBytes key → AreBytes iv → AreBytes was → AreBytes now → AreTenthsSealed key iv was now → r * 160 + 16 ≤ length was → o < 16
    → get_or was (r * 160 + o) 0 ≡ bit_xor (get_or (inv_cipher key (tenth now r)) o 0) (get_or (tenth_before iv now r) o 0)
tenth_byte back key iv was now r o fk fi fw fn sealed fits lt =
    sym (get_or-take 16 (drop (r * 160) was) o 0 lt ∙ get_or-drop (r * 160) was o 0)
    ∙ ap (λ (xs : List ℕ). get_or xs o 0) (sym (tenth_opens back key iv was now r fk fi fw fn sealed fits))
    ∙ byte_of_xor (inv_cipher key (tenth now r)) (tenth_before iv now r) o lt

piece_of_bytes : (xs : List ℕ) (c : ℕ) → AreBytes xs → AreBytes (drop c xs)
piece_of_bytes xs c fits = record { each = λ i. rw (get_or-drop c xs i 0) (fits.each (c + i)) }

pub chain_opens : Back → (key kid iv : List ℕ) (c d : ℕ) (was now : List ℕ) → AreBytes key → AreBytes iv → AreBytes was → AreBytes now → c + d ≡ length was → length now ≡ length was
    → ((i : ℕ) → i < c → get_or now i 0 ≡ get_or was i 0) → AreTenthsSealed key iv (drop c was) (drop c now)
    → decryption_of key (Some (chained kid iv c d)) now ≡ was
chain_opens back key kid iv c d was now fk fi fw fn sum len lead part =
    let p = chained kid iv c d in
    let n : length (drop c was) ≡ d = omega (arith, length-drop c was) in
    let size = length now in
    opened_to key p was now len (by_part (λ i. get_or was i 0 ≡ clear_byte key p now i) c d (length was) sum
    (λ i lt. rw (spot_clear 0 (pair c d) [] i lt) (sym (lead i lt)))
    (λ j lt. elim (cases_lt (j % 160) 16) [
      | inr high ↦
          rw (class_other kid iv c d size j lt (λ low. absurd (omega arith))) (sym (rw (get_or-drop c now j 0, get_or-drop c was j 0) at (part.left j (λ low. absurd (omega arith)))))
      | inl low ↦ elim (cases_lt d (j / 160 * 160 + 16)) [
        | inl cut ↦ rw (class_other kid iv c d size j lt (λ low2. cut)) (sym (rw (get_or-drop c now j 0, get_or-drop c was j 0) at (part.left j (λ low2. omega (arith, n, cut)))))
        | inr whole ↦
            let there : j / 160 * 160 + j % 160 ≡ j = omega arith in
            let byte = tenth_byte back key iv (drop c was) (drop c now) (j / 160) (j % 160) fk fi (piece_of_bytes was c fw) (piece_of_bytes now c fn) part (omega (arith, n, whole)) low in
            let class = rw there at (class_tenth kid iv c d size (j / 160) (j % 160) whole low) in
            rw (class, tenth_is kid iv c d (j / 160) now whole, before_is kid iv c d (j / 160) now whole) (rw (there, get_or-drop c was j 0) at byte)
      ]
    ]))

-- ---- both schemes

pub as_tenths : (scheme : Scheme) (key iv : List ℕ) (number : ℕ) (was now : List ℕ) → scheme ≡ Cbcs → AreTenthsSealed key iv was now → IsPartSealed scheme key (iv_of scheme iv number) was now
unfolding iv_of
as_tenths Cenc key iv number was now is sealed = let wrong : ⊥ = cc in absurd wrong
as_tenths Cbcs key iv number was now is sealed = sealed

by_scheme : Back → (scheme : Scheme) (kid key iv : List ℕ) (lead number : ℕ) (was now : List ℕ) → AreBytes key → AreBytes iv → AreBytes was → AreBytes now → length now ≡ length was
    → ((i : ℕ) → i < min lead (length was) → get_or now i 0 ≡ get_or was i 0)
    → IsPartSealed scheme key (iv_of scheme iv number) (drop (min lead (length was)) was) (drop (min lead (length was)) now)
    → decryption_of key (Some (sealed_protect (record { scheme = scheme; kid = kid; key = record { bytes = key }; iv = iv; lead = lead }) number (length was))) now ≡ was
unfolding iv_of
by_scheme back Cenc kid key iv lead number was now fk fi fw fn len front part =
    stream_opens key kid (iv_of Cenc iv number) (min lead (length was)) (length was - min lead (length was)) was now (omega arith) len front part
by_scheme back Cbcs kid key iv lead number was now fk fi fw fn len front part =
    chain_opens back key kid iv (min lead (length was)) (length was - min lead (length was)) was now fk fi fw fn (omega arith) len front part

put_length : (a n : ℕ) (xs ys : List ℕ) → a + n ≤ length xs → length ys ≡ n → length (put_mid a n xs ys) ≡ length xs
put_length a n xs ys le len = search (rules, places)

-- a sample whose protected bytes were overwritten
pub sealed_opens : Back → (plan : SealPlan) (number c n : ℕ) (was ys : List ℕ)
    → AreBytes plan.key.bytes → AreBytes plan.iv → AreBytes was → AreBytes (put_mid c n was ys) → c ≡ min plan.lead (length was) → n ≡ length was - c → length ys ≡ n
    → IsPartSealed plan.scheme plan.key.bytes (iv_of plan.scheme plan.iv number) (drop c was) ys
    → decryption_of plan.key.bytes (Some (sealed_protect plan number (length was))) (put_mid c n was ys) ≡ was
sealed_opens back plan number c n was ys fk fi fw fn is left ys_len part =
    let now = put_mid c n was ys in
    let len = put_length c n was ys (omega (arith, is, left)) ys_len in
    let behind : drop c now ≡ ys =
    sym (take_all (length was - c) (drop c now) (omega (arith, length-drop c now, len))) ∙ between-put_mid c n was ys (length was) (omega arith) (omega (arith, ys_len, left)) in
    by_scheme back plan.scheme plan.kid plan.key.bytes plan.iv plan.lead number was now fk fi fw fn len
    (λ i lt. before c n was ys i (omega arith) (omega (arith, is, lt)))
    (rw (sym is, behind) part)
