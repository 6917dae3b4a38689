-- A sample of chained blocks that is opened run by run.
use Rattle.std.proofs.Common.{◌≡◌, ℕ, zero, suc, ◌+◌, ◌-◌, ◌*◌, ◌/◌, ◌%◌, ◌<◌, ◌≤◌, Bool, true, false, List, [], ◌∷◌, length, get_or, take, drop, bit_xor, refl, sym, ap, ◌∙◌, arith, ◌⊎◌, eqb-true, inl, inr, length-take, length-drop, get_or-take, get_or-drop}
use Rattle.std.specs.Prelude.{if◌then◌else◌, map, slice_index, Option, Some, None}
use Rattle.std.specs.List.{range_with_len}
use Rattle.std.proofs.lemmas.List.{ext_get_or}
use borrow.Rule.Slice.PartMut.{put_mid}
use Rattle.eme_types.specs.declared.sample.Protect.{Protect}
use Rattle.eme_types.specs.declared.sample.Scheme.{Scheme}
use Rattle.eme_types.specs.declared.sample.Scheme.TheVariants.{Cenc, Cbcs}
use Rattle.aes128.specs.InverseCipher.{inv_cipher}
use Rattle.ctr_cbc.specs.Blocks.{block, exclusive_or}
use Rattle.ctr_cbc.specs.Chain.{block_before, opened_block}
use Rattle.pattern_map.specs.declared.range.ByteRange.{ByteRange}
use Rattle.pattern_map.specs.ByteClasses.{ByteClass, Clear, Protected, Block, Spot, block_class, block_place, protected_class, spot_from, subsamples}
use Rattle.pattern_map.specs.Coverage.{is_clear, later, AreWhole}
use Rattle.sample_crypt.specs.Decryption.{iv_bytes, encrypted_block, chained_to}
use Rattle.sample_crypt.proofs.Opening.{class_of, clear_byte, ToCome, Opened, opened_none, opened_more, opened_all, range_byte}

-- the classes of `cbcs` are of no key stream
no_stream : (scheme : Scheme) (p : Protect) (size i n : ℕ) → scheme ≡ Cbcs → protected_class scheme p size i ≡ Protected n → ⊥
no_stream Cenc p size i n e h = cc
no_stream Cbcs p size i n e h = of_spot (spot_from 0 (subsamples p.subs size) i) h where
  of_test : (b : Bool) (s r place : ℕ) → (if b then Block s r place else Clear) ≡ Protected n → ⊥
  of_test true s r place h = cc
  of_test false s r place h = cc

  of_spot : (spot : Option Spot) → block_class p.crypt p.skip spot ≡ Protected n → ⊥
  of_spot None h = cc
  of_spot (Some x) h = of_test _ _ _ _ h

-- a run of whole blocks from rank `first` of a subsample on
record Run (class : ByteClass) (n : ℕ) : Type 0 where
  subsample : ℕ
  first : ℕ
  is_block : class ≡ Block subsample first 0
  whole : n % 16 ≡ 0

run_of : (class : ByteClass) (n : ℕ) → is_clear class ≡ false → AreWhole class n → ((m : ℕ) → class ≡ Protected m → ⊥) → Run class n
run_of Clear n clear whole none = let wrong : ⊥ = cc in absurd wrong
run_of (Protected m) n clear whole none = absurd (none m refl)
run_of (Block s r place) n clear whole none = record { subsample = s; first = r; is_block = ap (Block s r) whole.0; whole = whole.1 }

-- the ranges from `start` on are to be opened, and a chain goes on from the block `before`
pub record ChainAt (key : List ℕ) (p : Protect) (was before : List ℕ) (rest : List ByteRange) (bytes : List ℕ) : Type 0 where
  pub start : ℕ
  pub next : ByteClass
  pub to_come : ToCome p was start next rest
  pub opened : Opened key p was start bytes
  pub chain : (s r : ℕ) → next ≡ Block s (suc r) 0 → before ≡ encrypted_block p was s r

pub chain_start : (key : List ℕ) (p : Protect) (was before bytes : List ℕ) (rest : List ByteRange) → bytes ≡ was → ToCome p was 0 (Protected 0) rest → ChainAt key p was before rest bytes
chain_start key p was before bytes rest same to_come = rw same (record { start = 0; next = Protected 0; to_come = to_come; opened = opened_none key p was; chain = λ s r e. cc })

pub chain_end : (key : List ℕ) (p : Protect) (was before bytes : List ℕ) (rest : List ByteRange) → rest ≡ [] → ChainAt key p was before rest bytes
    → bytes ≡ map (clear_byte key p was) (range_with_len 0 (length was))
chain_end key p was before bytes rest none now = opened_all key p was now.start now.next bytes now.opened (rw none at now.to_come)

module _ (key : List ℕ) (p : Protect) (was before : List ℕ) (r : ByteRange) (more : List ByteRange) (bytes : List ℕ) (cbcs : p.scheme ≡ Cbcs) (now : ChainAt key p was before (r ∷ more) bytes) where
  run : Run (class_of p was r.from) (r.to - r.from)
  run = let is = now.to_come.0 in run_of (class_of p was r.from) (r.to - r.from) is.encrypted is.blocks (λ m e. no_stream p.scheme p (length was) r.from m cbcs e)

  pub chain_bounds : (r.from < r.to) × (r.to ≤ length bytes) × ((r.to - r.from) % 16 ≡ 0)
  chain_bounds =
      let is = now.to_come.0 in
      let some = is.some in
      let within = is.within in
      let long = now.opened.long in
      (some, omega arith, run.whole)

  abbrev part : List ℕ
  part = take (r.to - r.from) (drop r.from bytes)

  part_length : length part ≡ r.to - r.from
  part_length =
      let bounds = chain_bounds in
      omega (arith, length-take (r.to - r.from) (drop r.from bytes), length-drop r.from bytes)

  -- byte j of the run
  run_class : (s k : ℕ) → class_of p was r.from ≡ Block s k 0 → (j : ℕ) → j < r.to - r.from → class_of p was (r.from + j) ≡ Block s (k + j / 16) (j % 16)
  run_class s k first j lt =
      let is = now.to_come.0 in
      let from : 0 + j ≡ j = omega arith in
      is.bytes j lt ∙ rw (first, from) refl

  module _ (law : (i s r place : ℕ) → protected_class p.scheme p (length was) i ≡ Block s r place → (i ≡ block_place p (length was) s r + place) × (place < 16))
      (s k : ℕ) (first : class_of p was r.from ≡ Block s k 0) where
    -- block i of the run is the encrypted block of its rank
    run_block : (i : ℕ) → i * 16 < r.to - r.from → block part i ≡ encrypted_block p was s (k + i)
    run_block i lt =
        let is = now.to_come.0 in
        let bounds = chain_bounds in
        let long = now.opened.long in
        let rank_is : k + i * 16 / 16 ≡ k + i = omega arith in
        let place_is : i * 16 % 16 ≡ 0 = omega arith in
        let class_is = rw (rank_is, place_is) at (run_class s k first (i * 16) lt) in
        let stands = law (r.from + i * 16) s (k + i) 0 class_is in
        let at : block_place p (length was) s (k + i) ≡ r.from + i * 16 = let e = stands.0 in omega arith in
        let left : length (take 16 (drop (i * 16) part)) ≡ 16 = omega (arith, part_length, length-take 16 (drop (i * 16) part), length-drop (i * 16) part) in
        let right : length (take 16 (drop (r.from + i * 16) was)) ≡ 16 = omega (arith, length-take 16 (drop (r.from + i * 16) was), length-drop (r.from + i * 16) was) in
        rw at (ext_get_or 0 _ _ (left ∙ sym right) (λ m inside.
        let there : r.from + (i * 16 + m) ≡ r.from + i * 16 + m = omega arith in
        get_or-take 16 (drop (i * 16) part) m 0 (omega arith) ∙ get_or-drop (i * 16) part m 0
        ∙ range_byte key p was now.start now.next r bytes (i * 16 + m) now.opened is (omega arith)
        ∙ ap (λ x. get_or was x 0) there
        ∙ sym (get_or-take 16 (drop (r.from + i * 16) was) m 0 (omega arith) ∙ get_or-drop (r.from + i * 16) was m 0)))

    -- what the run's first block is chained to
    first_chain : (iv chain : List ℕ) → iv_bytes p.iv ≡ iv → (r.fresh ≡ true → chain ≡ iv) → (r.fresh ≡ false → chain ≡ before) → chain ≡ chained_to p was s k
    first_chain iv chain same fresh on = go r.fresh refl k refl where
      go : (b : Bool) → r.fresh ≡ b → (n : ℕ) → k ≡ n → chain ≡ chained_to p was s n
      go true is_fresh zero e = fresh is_fresh ∙ sym same
      go true is_fresh (suc n) e =
          let is = now.to_come.0 in
          let begins = rw (is_fresh, first, e) at is.fresh in
          let none : suc n ≡ 0 = eqb-true (suc n) 0 (sym begins) in
          absurd (omega arith)
      go false is_fresh zero e =
          let is = now.to_come.0 in
          let begins = rw (is_fresh, first, e) at is.fresh in
          cc
      go false is_fresh (suc n) e =
          let is = now.to_come.0 in
          on is_fresh ∙ now.chain s n (sym (is.follows is_fresh) ∙ first ∙ ap (λ m. Block s m 0) e)

    module _ (chain : List ℕ) (chain_is : chain ≡ chained_to p was s k) where
      before_block : (i : ℕ) → i * 16 ≤ r.to - r.from → block_before chain part i ≡ chained_to p was s (k + i)
      before_block zero le = let plus : k + 0 ≡ k = omega arith in rw plus chain_is
      before_block (suc i) le = let plus : k + suc i ≡ suc (k + i) = omega arith in rw plus (run_block i (omega arith))

      pub opened_run : (ys : List ℕ)
          → ((bytes : List ℕ) (i j : ℕ) → j < 16 → slice_index (block bytes i) j ≡ slice_index bytes (i * 16 + j))
          → ((a b : List ℕ) (j : ℕ) → j < 16 → slice_index (exclusive_or a b) j ≡ bit_xor (slice_index a j) (slice_index b j))
          → ((i : ℕ) → i * 16 < length part → block ys i ≡ opened_block key chain part i)
          → (j : ℕ) → j < r.to - r.from → get_or ys j 0 ≡ clear_byte key p was (r.from + j)
      opened_run ys of_block of_sum opens j lt =
          let there : j / 16 * 16 + j % 16 ≡ j = omega arith in
          let inside : j / 16 * 16 < length part = omega (arith, part_length) in
          let place = rw there at (of_block ys (j / 16) (j % 16) (omega arith)) in
          sym place ∙ ap (λ b. get_or b (j % 16) 0) (opens (j / 16) inside)
          ∙ of_sum (inv_cipher key (block part (j / 16))) (block_before chain part (j / 16)) (j % 16) (omega arith)
          ∙ rw (run_block (j / 16) (omega arith), before_block (j / 16) (omega arith), run_class s k first j lt) refl

      -- the run's last block, to which the next run is chained
      pub last_block : (last : List ℕ) → last ≡ block_before chain part (length part / 16)
          → (t q : ℕ) → later (class_of p was r.from) (r.to - r.from) ≡ Block t (suc q) 0 → last ≡ encrypted_block p was t q
      last_block last is t q next =
          let from : 0 + (r.to - r.from) ≡ r.to - r.from = omega arith in
          let here : Block s (k + (r.to - r.from) / 16) ((r.to - r.from) % 16) ≡ Block t (suc q) 0 = sym (rw (first, from) refl) ∙ next in
          let sub_is : s ≡ t = cc in
          let rank_is : k + (r.to - r.from) / 16 ≡ suc q = cc in
          let all : length part / 16 ≡ (r.to - r.from) / 16 = ap (λ n. n / 16) part_length in
          let end : chained_to p was s (k + (r.to - r.from) / 16) ≡ encrypted_block p was t q = rw (rank_is, sub_is) refl in
          is ∙ ap (λ m. block_before chain part m) all ∙ before_block ((r.to - r.from) / 16) (omega arith) ∙ end

  -- a run is opened
  pub chain_step : (iv chain ys last : List ℕ)
      → ((i s r place : ℕ) → protected_class p.scheme p (length was) i ≡ Block s r place → (i ≡ block_place p (length was) s r + place) × (place < 16))
      → ((bytes : List ℕ) (i j : ℕ) → j < 16 → slice_index (block bytes i) j ≡ slice_index bytes (i * 16 + j))
      → ((a b : List ℕ) (j : ℕ) → j < 16 → slice_index (exclusive_or a b) j ≡ bit_xor (slice_index a j) (slice_index b j))
      → iv_bytes p.iv ≡ iv → ((r.fresh ≡ true) × (chain ≡ iv)) ⊎ ((r.fresh ≡ false) × (chain ≡ before))
      → length ys ≡ r.to - r.from
      → ((i : ℕ) → i * 16 < length part → block ys i ≡ opened_block key chain part i)
      → last ≡ block_before chain part (length part / 16)
      → ChainAt key p was last more (put_mid r.from (r.to - r.from) bytes ys)
  chain_step iv chain ys last law of_block of_sum same given len opens last_is =
      let s = run.subsample in
      let k = run.first in
      let first = run.is_block in
      let fresh : r.fresh ≡ true → chain ≡ iv = λ e. elim given [ inl x ↦ x.1 | inr x ↦ let wrong = sym e ∙ x.0 in cc ] in
      let on : r.fresh ≡ false → chain ≡ before = λ e. elim given [ inl x ↦ let wrong = sym e ∙ x.0 in cc | inr x ↦ x.1 ] in
      let chain_is = first_chain law s k first iv chain same fresh on in
      record {
        start = r.to;
        next = later (class_of p was r.from) (r.to - r.from);
        to_come = now.to_come.1;
        opened = opened_more key p was now.start now.next r bytes ys now.opened now.to_come.0 len (λ j lt. opened_run law s k first chain chain_is ys of_block of_sum opens j lt);
        chain = last_block law s k first chain chain_is last last_is;
      }
