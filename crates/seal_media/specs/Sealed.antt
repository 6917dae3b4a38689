-- What sealing makes of clear media: the same tracks, fragments and parts, and each sample protected by the plan.
use Rattle.std.specs.Prelude.{◌≡◌, ℕ, ◌+◌, ◌-◌, ◌%◌, ◌^◌, min, List, [], ◌∷◌, length, take, Some}
use Rattle.std.specs.Int.{w64, from_be_bytes, to_be_bytes}
use Rattle.eme_types.specs.declared.sample.EncSample.{EncSample}
use Rattle.eme_types.specs.declared.sample.Iv.{Iv}
use Rattle.eme_types.specs.declared.sample.Iv.TheVariants.{Eight, Sixteen}
use Rattle.eme_types.specs.declared.sample.Protect.{Protect}
use Rattle.eme_types.specs.declared.sample.Scheme.{Scheme}
use Rattle.eme_types.specs.declared.sample.Scheme.TheVariants.{Cenc, Cbcs}
use Rattle.eme_types.specs.declared.sample.Sub.{Sub}
use Rattle.eme_types.specs.declared.media.InitData.{InitData}
use Rattle.eme_types.specs.declared.media.InitKind.TheVariants as init_kind
use Rattle.eme_types.specs.declared.media.TrackPart.{TrackPart}
use Rattle.eme_types.specs.declared.media.Fragment.{Fragment}
use Rattle.eme_types.specs.declared.media.Media.{Media}
use Rattle.eme_types.specs.Fed.{part_samples, fragment_samples}
use Rattle.init_data.specs.declared.pssh.Pssh.{Pssh}
use Rattle.init_data.specs.InitData.{common_system}
use Rattle.init_data.specs.Pssh.{pssh_box}
use Rattle.sample_crypt.specs.Decryption.{decryption}
use Rattle.seal_media.specs.declared.plan.SealPlan.{SealPlan}

-- ---- a sample

-- the bytes that stay clear: the lead, or all of a shorter sample
abbrev pub clear_bytes : SealPlan → ℕ → ℕ
clear_bytes plan size = min plan.lead size

-- the one pair of a sample of this size; a sample without bytes has a pair of zeros
abbrev pub pair_of : SealPlan → ℕ → Sub
pair_of plan size = record { clear = clear_bytes plan size; prot = size - clear_bytes plan size }

-- the IV of a sample: in `cenc` the number in the first 8 bytes and as much further as the sample's number says, in `cbcs` the
-- constant one (ISO/IEC 23001-7 sections 9.3, 10.1 and 10.4)
unfoldable pub iv_of : Scheme → List ℕ → ℕ → Iv
iv_of Cenc iv number = Eight (to_be_bytes w64 ((from_be_bytes w64 (take 8 iv) + number) % 2 ^ 64))
iv_of Cbcs iv number = Sixteen iv

-- the pattern 1:9 of `cbcs`: the encrypted blocks
abbrev pub crypt_of : Scheme → ℕ
crypt_of Cenc = 0
crypt_of Cbcs = 1

-- and the clear ones
abbrev pub skip_of : Scheme → ℕ
skip_of Cenc = 0
skip_of Cbcs = 9

-- what protects the sample of a number and a size; samples are numbered from 0 in file order over all tracks
abbrev pub sealed_protect : SealPlan → ℕ → ℕ → Protect
sealed_protect plan number size = record {
  scheme = plan.scheme;
  kid = plan.kid;
  iv = iv_of plan.scheme plan.iv number;
  crypt = crypt_of plan.scheme;
  skip = skip_of plan.scheme;
  subs = pair_of plan size ∷ [];
}

-- a sample sealed: it is protected by the plan, and opened with the plan's key it is the clear one
pub record IsSealed (plan : SealPlan) (number : ℕ) (clear sealed : EncSample) : Type 0 where
  pub protect : sealed.protect ≡ Some (sealed_protect plan number (length clear.bytes))
  pub size : length sealed.bytes ≡ length clear.bytes
  pub opens : decryption sealed plan.key ≡ clear.bytes

-- ---- samples, parts, fragments

-- one for one, the first with this number
abbrev pub AreSealed : SealPlan → ℕ → List EncSample → List EncSample → Type 0
AreSealed plan number [] [] = Unit {0}
AreSealed plan number [] (s ∷ ss) = ⊥
AreSealed plan number (c ∷ cs) [] = ⊥
AreSealed plan number (c ∷ cs) (s ∷ ss) = IsSealed plan number c s × AreSealed plan (number + 1) cs ss

-- a part with its samples sealed
pub record IsSealedPart (plan : SealPlan) (number : ℕ) (clear sealed : TrackPart) : Type 0 where
  pub track : sealed.track ≡ clear.track
  pub samples : AreSealed plan number clear.samples sealed.samples

-- one for one, the first sample with this number
abbrev pub AreSealedParts : SealPlan → ℕ → List TrackPart → List TrackPart → Type 0
AreSealedParts plan number [] [] = Unit {0}
AreSealedParts plan number [] (q ∷ qs) = ⊥
AreSealedParts plan number (p ∷ ps) [] = ⊥
AreSealedParts plan number (p ∷ ps) (q ∷ qs) = IsSealedPart plan number p q × AreSealedParts plan (number + part_samples p) ps qs

-- a fragment with its parts sealed, and with this initialization data
pub record IsSealedFragment (plan : SealPlan) (number : ℕ) (given : List InitData) (clear sealed : Fragment) : Type 0 where
  pub inits : sealed.inits ≡ given
  pub parts : AreSealedParts plan number clear.parts sealed.parts

-- one for one, the first sample with this number; the first fragment has this initialization data, the others have none
abbrev pub AreSealedFragments : SealPlan → ℕ → List InitData → List Fragment → List Fragment → Type 0
AreSealedFragments plan number given [] [] = Unit {0}
AreSealedFragments plan number given [] (g ∷ gs) = ⊥
AreSealedFragments plan number given (f ∷ fs) [] = ⊥
AreSealedFragments plan number given (f ∷ fs) (g ∷ gs) =
    IsSealedFragment plan number given f g × AreSealedFragments plan (number + fragment_samples f) [] fs gs

-- ---- the media

-- the box that tells the key id, under the Common SystemID and without data (ISO/IEC 23001-7 section 8.1)
abbrev pub pssh_of : SealPlan → Pssh
pssh_of plan = record { version = 1; system = common_system; kids = plan.kid ∷ []; content = [] }

-- the initialization data of the first fragment
abbrev pub init_of : SealPlan → InitData
init_of plan = record { kind = init_kind.Cenc; bytes = pssh_box (pssh_of plan) }

-- clear media sealed
pub record IsSealedMedia (plan : SealPlan) (clear sealed : Media) : Type 0 where
  pub tracks : sealed.tracks ≡ clear.tracks
  pub fragments : AreSealedFragments plan 0 (init_of plan ∷ []) clear.fragments sealed.fragments
