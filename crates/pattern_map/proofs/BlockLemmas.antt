-- The bytes of blocks stand where the definition of a block's place says.
use Rattle.std.proofs.Common.{◌≡◌, ℕ, suc, ◌+◌, ◌-◌, ◌/◌, ◌%◌, ◌<◌, Bool, true, false, refl, ap, ◌∙◌, arith, ltb-true}
use Rattle.std.specs.Prelude.{filter, slice_index, nat_lt, Option, Some, None, ◌&&◌, if◌then◌else◌, IsTrue}
use Rattle.std.specs.List.{range_with_len}
use Rattle.std.proofs.Math.Seq.{get_or-append_seam}
use Rattle.std.proofs.lemmas.List.Elements.{filter-append}
use Rattle.eme_types.specs.declared.sample.Protect.{Protect}
use Rattle.eme_types.specs.declared.sample.Scheme.{Scheme}
use Rattle.eme_types.specs.declared.sample.Scheme.TheVariants.{Cenc, Cbcs}
use Rattle.pattern_map.specs.ByteClasses.{Clear, Block, Spot, block_place, encrypted_blocks, is_encrypted, is_protected, protected_class, rank, spot_from, subsamples}
use Rattle.pattern_map.proofs.CountLemmas.{range_split}
use Rattle.pattern_map.proofs.SpotLemmas.{spot_stands}

-- the class of a block has its spot's subsample, rank and place
pub tested_block : (a b : Bool) (n k o s r place : ℕ) → (if a && b then Block n k o else Clear) ≡ Block s r place
    → IsTrue a × IsTrue b × (n ≡ s) × (k ≡ r) × (o ≡ place)
tested_block true true n k o s r place e = (refl, refl, cc, cc, cc)
tested_block true false n k o s r place e = let wrong : ⊥ = cc in absurd wrong
tested_block false b n k o s r place e = let wrong : ⊥ = cc in absurd wrong

-- the place of the block of its rank
block_of_rank : (crypt skip n q : ℕ) → q < n → is_encrypted crypt skip q ≡ true → slice_index (encrypted_blocks crypt skip n) (rank crypt skip q) ≡ q
block_of_rank crypt skip n q lt is =
    let whole : q + suc (n - q - 1) ≡ n = omega arith in
    let from : 0 + q ≡ q = omega arith in
    let split = rw (from, whole) at (range_split 0 q (suc (n - q - 1))) in
    let parts = ap (filter (is_encrypted crypt skip)) split ∙ filter-append (is_encrypted crypt skip) (range_with_len 0 q) (range_with_len q (suc (n - q - 1))) in
    rw (parts, is) (get_or-append_seam (encrypted_blocks crypt skip q) q (filter (is_encrypted crypt skip) (range_with_len (q + 1) (n - q - 1))) 0)

-- a byte of a block stands at its place in the block
pub block_stands : (scheme : Scheme) (p : Protect) (size i s r place : ℕ) → protected_class scheme p size i ≡ Block s r place → (i ≡ block_place p size s r + place) × (place < 16)
block_stands Cenc p size i s r place e = go (is_protected (subsamples p.subs size) i) refl where
  go : (b : Bool) → is_protected (subsamples p.subs size) i ≡ b → (i ≡ block_place p size s r + place) × (place < 16)
  go true is = let h = rw is at e in let wrong : ⊥ = cc in absurd wrong
  go false is = let h = rw is at e in let wrong : ⊥ = cc in absurd wrong
block_stands Cbcs p size i s r place e = go (spot_from 0 (subsamples p.subs size) i) refl where
  go : (spot : Option Spot) → spot_from 0 (subsamples p.subs size) i ≡ spot → (i ≡ block_place p size s r + place) × (place < 16)
  go None is = let h = rw is at e in let wrong : ⊥ = cc in absurd wrong
  go (Some y) is =
      let h = rw is at e in
      let tested = tested_block (nat_lt (y.place / 16) (y.size / 16)) (is_encrypted p.crypt p.skip (y.place / 16)) y.subsample (rank p.crypt p.skip (y.place / 16)) (y.place % 16) s r place h in
      let st = spot_stands 0 (subsamples p.subs size) i y is in
      let within : y.place / 16 < y.size / 16 = ltb-true _ _ tested.0 in
      let number : st.number ≡ s = let a = st.is_number in let b : y.subsample ≡ s = tested.2 in omega arith in
      let block = block_of_rank p.crypt p.skip (y.size / 16) (y.place / 16) within tested.1 in
      let at = st.place (y.place / 16) (y.place % 16) (omega arith) in
      let size_is = st.size in
      let rank_is : rank p.crypt p.skip (y.place / 16) ≡ r = tested.3 in
      let place_is : y.place % 16 ≡ place = tested.4 in
      (rw (← number, ← size_is, ← rank_is, ← place_is, block) at, omega arith)
