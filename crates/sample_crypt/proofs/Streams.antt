-- A sample in counter mode that is opened range by range.
use Rattle.std.proofs.Common.{◌≡◌, ℕ, ◌+◌, ◌-◌, ◌<◌, ◌≤◌, Bool, true, false, List, [], ◌∷◌, length, get_or, take, drop, bit_xor, refl, ap, ◌∙◌, arith, length-take, length-drop}
use Rattle.std.specs.Prelude.{if◌then◌else◌, map}
use Rattle.std.specs.List.{range_with_len}
use borrow.Rule.Slice.PartMut.{put_mid}
use Rattle.eme_types.specs.declared.sample.Protect.{Protect}
use Rattle.eme_types.specs.declared.sample.Scheme.{Scheme}
use Rattle.eme_types.specs.declared.sample.Scheme.TheVariants.{Cenc, Cbcs}
use Rattle.ctr_cbc.specs.KeyStream.{stream_byte}
use Rattle.pattern_map.specs.declared.range.ByteRange.{ByteRange}
use Rattle.pattern_map.specs.ByteClasses.{Clear, Protected, is_protected, protected_class, subsamples}
use Rattle.pattern_map.specs.Coverage.{begins_chain, later}
use Rattle.sample_crypt.specs.Decryption.{iv_bytes}
use Rattle.sample_crypt.proofs.Opening.{class_of, clear_byte, ToCome, Opened, opened_none, opened_more, opened_all, range_byte}

-- no chain begins in a stream
no_chain : (scheme : Scheme) (p : Protect) (size i : ℕ) → scheme ≡ Cenc → begins_chain (protected_class scheme p size i) ≡ false
no_chain Cenc p size i e = go (is_protected (subsamples p.subs size) i) _ where
  go : (b : Bool) (n : ℕ) → begins_chain (if b then Protected n else Clear) ≡ false
  go true n = refl
  go false n = refl
no_chain Cbcs p size i e = cc

-- the ranges from `start` on are to be opened, and the key stream goes on at its byte `from`
pub record StreamAt (key : List ℕ) (p : Protect) (was : List ℕ) (from : ℕ) (rest : List ByteRange) (bytes : List ℕ) : Type 0 where
  pub start : ℕ
  pub to_come : ToCome p was start (Protected from) rest
  pub opened : Opened key p was start bytes
  pub low : from ≤ start

module _ (key : List ℕ) (p : Protect) (was : List ℕ) (from : ℕ) (r : ByteRange) (more : List ByteRange) (bytes : List ℕ) (cenc : p.scheme ≡ Cenc) (now : StreamAt key p was from (r ∷ more) bytes) where
  first_class : class_of p was r.from ≡ Protected from
  first_class = let is = now.to_come.0 in is.follows (is.fresh ∙ no_chain p.scheme p (length was) r.from cenc)

  -- a range lies in the bytes, and the key stream goes on within 64 bits
  pub stream_bounds : (r.from < r.to) × (r.to ≤ length bytes) × (from ≤ r.from)
  stream_bounds =
      let is = now.to_come.0 in
      let some = is.some in
      let within = is.within in
      let order = is.order in
      let long = now.opened.long in
      let low = now.low in
      (some, omega arith, omega arith)

  pub stream_step : (iv ys : List ℕ) → length ys ≡ r.to - r.from
      → ((j : ℕ) → j < length (take (r.to - r.from) (drop r.from bytes)) → get_or ys j 0 ≡ bit_xor (get_or (take (r.to - r.from) (drop r.from bytes)) j 0) (stream_byte key iv (from + j)))
      → ((n : ℕ) → stream_byte key iv n ≡ stream_byte key (iv_bytes p.iv) n)
      → StreamAt key p was (from + (r.to - r.from)) more (put_mid r.from (r.to - r.from) bytes ys)
  stream_step iv ys len each same =
      let is = now.to_come.0 in
      let bounds = stream_bounds in
      let low = now.low in
      let order = is.order in
      record {
        start = r.to;
        to_come = rw first_class at now.to_come.1;
        opened = opened_more key p was now.start (Protected from) r bytes ys now.opened is len (λ j lt.
            let inside : j < length (take (r.to - r.from) (drop r.from bytes)) = omega (arith, length-take (r.to - r.from) (drop r.from bytes), length-drop r.from bytes) in
            let class_is = is.bytes j lt ∙ ap (λ c. later c j) first_class in
            each j inside ∙ rw (range_byte key p was now.start (Protected from) r bytes j now.opened is lt, same (from + j), class_is) refl);
        low = omega arith;
      }

pub stream_start : (key : List ℕ) (p : Protect) (was bytes : List ℕ) (rest : List ByteRange) → bytes ≡ was → ToCome p was 0 (Protected 0) rest → StreamAt key p was 0 rest bytes
stream_start key p was bytes rest same to_come = rw same (record { start = 0; to_come = to_come; opened = opened_none key p was; low = omega arith })

pub stream_end : (key : List ℕ) (p : Protect) (was bytes : List ℕ) (from : ℕ) (rest : List ByteRange) → rest ≡ [] → StreamAt key p was from rest bytes
    → bytes ≡ map (clear_byte key p was) (range_with_len 0 (length was))
stream_end key p was bytes from rest none now = opened_all key p was now.start (Protected from) bytes now.opened (rw none at now.to_come)
