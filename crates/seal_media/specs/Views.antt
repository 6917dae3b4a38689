-- What the functions of this crate write of clear media, before they are sealed. It is no part of the public definition.
use Rattle.std.specs.Prelude.{◌≡◌, ℕ, zero, suc, ◌+◌, ◌*◌, ◌/◌, ◌%◌, ◌<◌, ◌≤◌, List, [], ◌∷◌, ◌++◌, length, map, flat_map, take, drop, slice_index, bit_xor, codes}
use Rattle.eme_types.specs.declared.sample.EncSample.{EncSample}
use Rattle.eme_types.specs.declared.sample.Iv.{Iv}
use Rattle.eme_types.specs.declared.sample.Scheme.{Scheme}
use Rattle.eme_types.specs.declared.sample.Scheme.TheVariants.{Cenc, Cbcs}
use Rattle.eme_types.specs.declared.media.TrackPart.{TrackPart}
use Rattle.eme_types.specs.declared.media.Fragment.{Fragment}
use Rattle.eme_types.specs.declared.media.InitData.{InitData}
use Rattle.eme_types.specs.Fed.{sample_bytes, part_samples, part_bytes}
use Rattle.aes128.specs.Cipher.{cipher}
use Rattle.ctr_cbc.specs.Blocks.{exclusive_or}
use Rattle.ctr_cbc.specs.KeyStream.{stream_byte}
use Rattle.sample_crypt.specs.Decryption.{iv_bytes}
use Rattle.iso_boxes.specs.Writing.{boxed}
use Rattle.prot_boxes.specs.declared.senc.SencItem.{SencItem}
use Rattle.seal_media.specs.declared.plan.SealPlan.{SealPlan}
use Rattle.seal_media.specs.Sealed.{iv_of, pair_of, IsSealed, AreSealed, AreSealedParts, AreSealedFragments}
use Rattle.seal_media.specs.Layout.{own_iv, traf_body, mdat_body, part_boxes, fragment_boxes}

-- what the senc will say of the sample of a number and a size
abbrev pub item_at : SealPlan → ℕ → ℕ → SencItem
item_at plan number size = record { iv = own_iv plan.scheme (iv_of plan.scheme plan.iv number); subs = pair_of plan size ∷ [] }

-- of samples, the first of which has this number
abbrev pub items_from : SealPlan → ℕ → List EncSample → List SencItem
items_from plan number [] = []
items_from plan number (s ∷ ss) = item_at plan number (sample_bytes s) ∷ items_from plan (number + 1) ss

-- the track fragment of a part whose first sample has this number
abbrev pub traf_at : SealPlan → ℕ → ℕ → TrackPart → List ℕ
traf_at plan number offset p = boxed (codes "traf") (traf_body offset p.track (map sample_bytes p.samples) (items_from plan number p.samples))

-- those of parts
abbrev pub trafs_at : SealPlan → ℕ → ℕ → List TrackPart → List ℕ
trafs_at plan number offset [] = []
trafs_at plan number offset (p ∷ ps) = traf_at plan number offset p ++ trafs_at plan (number + part_samples p) (offset + part_bytes p) ps

-- ---- the protected bytes of a sample

-- the first of the ten blocks of number r
abbrev pub tenth : List ℕ → ℕ → List ℕ
tenth bytes r = take 16 (drop (r * 160) bytes)

-- what it is chained to: the sealed one before it, or the IV
abbrev pub tenth_before : List ℕ → List ℕ → ℕ → List ℕ
tenth_before iv bytes zero = iv
tenth_before iv bytes (suc r) = tenth bytes r

-- one block in ten is sealed, where it is whole, and all other bytes are left
pub record AreTenthsSealed (key iv was now : List ℕ) : Type 0 where
  pub size : length now ≡ length was
  pub sealed : (r : ℕ) → r * 160 + 16 ≤ length was → tenth now r ≡ cipher key (exclusive_or (tenth was r) (tenth_before iv now r))
  pub left : (i : ℕ) → (i % 160 < 16 → length was < i / 160 * 160 + 16) → slice_index now i ≡ slice_index was i

-- each byte has its byte of the key stream added
pub record AreStreamed (key iv was now : List ℕ) : Type 0 where
  pub size : length now ≡ length was
  pub added : (j : ℕ) → j < length was → slice_index now j ≡ bit_xor (slice_index was j) (stream_byte key iv j)

abbrev pub IsPartSealed : Scheme → List ℕ → Iv → List ℕ → List ℕ → Type 0
IsPartSealed Cenc key iv was now = AreStreamed key (iv_bytes iv) was now
IsPartSealed Cbcs key iv was now = AreTenthsSealed key (iv_bytes iv) was now

-- ---- what is appended to the file

-- a sample, sealed
pub record HasSample (plan : SealPlan) (number : ℕ) (clear : EncSample) (old new : List ℕ) : Type 0 where
  pub sealed : EncSample
  pub is : IsSealed plan number clear sealed
  pub behind : new ≡ old ++ sealed.bytes

-- samples, sealed
pub record HasSamples (plan : SealPlan) (number : ℕ) (clear : List EncSample) (old new : List ℕ) : Type 0 where
  pub sealed : List EncSample
  pub are : AreSealed plan number clear sealed
  pub behind : new ≡ old ++ flat_map (λ (s : EncSample). s.bytes) sealed

-- the samples of parts, sealed
pub record HasParts (plan : SealPlan) (number : ℕ) (clear : List TrackPart) (old new : List ℕ) : Type 0 where
  pub sealed : List TrackPart
  pub are : AreSealedParts plan number clear sealed
  pub behind : new ≡ old ++ mdat_body sealed

-- the boxes of a fragment, sealed
pub record HasFragment (plan : SealPlan) (number : ℕ) (clear : Fragment) (old new : List ℕ) : Type 0 where
  pub sealed : List TrackPart
  pub are : AreSealedParts plan number clear.parts sealed
  pub behind : new ≡ old ++ part_boxes plan.scheme sealed

-- the boxes of fragments, sealed
pub record HasFragments (plan : SealPlan) (number : ℕ) (given : List InitData) (clear : List Fragment) (old new : List ℕ) : Type 0 where
  pub sealed : List Fragment
  pub are : AreSealedFragments plan number given clear sealed
  pub behind : new ≡ old ++ flat_map (fragment_boxes plan.scheme) sealed
