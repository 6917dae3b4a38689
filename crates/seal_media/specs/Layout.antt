-- The file of sealed media: a movie without samples, and then a movie fragment and its data for each fragment (ISO/IEC 14496-12
-- section 8.8). It has only the boxes and the fields that a reader of protected fragments asks for; what they leave open is 0.
use Rattle.std.specs.Prelude.{ℕ, ◌+◌, true, List, [], ◌∷◌, ◌++◌, length, map, replicate, flat_map, codes, Option, Some, None}
use Rattle.std.specs.Int.{w32, to_be_bytes}
use Rattle.eme_types.specs.declared.sample.EncSample.{EncSample}
use Rattle.eme_types.specs.declared.sample.Iv.{Iv}
use Rattle.eme_types.specs.declared.sample.Iv.TheVariants.{Sixteen}
use Rattle.eme_types.specs.declared.sample.Protect.{Protect}
use Rattle.eme_types.specs.declared.sample.Scheme.{Scheme}
use Rattle.eme_types.specs.declared.sample.Scheme.TheVariants.{Cenc, Cbcs}
use Rattle.eme_types.specs.declared.media.TrackPart.{TrackPart}
use Rattle.eme_types.specs.declared.media.Fragment.{Fragment}
use Rattle.eme_types.specs.declared.media.Media.{Media}
use Rattle.eme_types.specs.Fed.{sample_bytes, part_bytes}
use Rattle.iso_boxes.specs.Writing.{boxed}
use Rattle.prot_boxes.specs.declared.senc.SencItem.{SencItem}
use Rattle.prot_boxes.specs.declared.sinf.Sinf.{Sinf}
use Rattle.prot_boxes.specs.declared.tenc.Tenc.{Tenc}
use Rattle.prot_boxes.specs.Sinf.{sinf_body}
use Rattle.prot_boxes.specs.Senc.{senc_body}
use Rattle.init_data.specs.Pssh.{pssh_box}
use Rattle.seal_media.specs.declared.plan.SealPlan.{SealPlan}
use Rattle.seal_media.specs.Sealed.{crypt_of, skip_of, pssh_of}
use Rattle.seal_media.specs.Lengths.{moof_length}

-- ---- the movie

-- the version of the tenc: only from 1 on does it tell a pattern
abbrev pub tenc_version : Scheme → ℕ
tenc_version Cenc = 0
tenc_version Cbcs = 1

-- the bytes of a sample's own IV
abbrev pub own_iv_size : Scheme → ℕ
own_iv_size Cenc = 8
own_iv_size Cbcs = 0

-- the IV of all samples
abbrev pub constant_iv : Scheme → List ℕ → Option Iv
constant_iv Cenc iv = None
constant_iv Cbcs iv = Some (Sixteen iv)

-- what protects the samples of each track
abbrev pub tenc_of : SealPlan → Tenc
tenc_of plan = record {
  version = tenc_version plan.scheme;
  crypt = crypt_of plan.scheme;
  skip = skip_of plan.scheme;
  protected = true;
  iv_size = own_iv_size plan.scheme;
  kid = plan.kid;
  constant = constant_iv plan.scheme plan.iv;
}

-- the scheme of each track, and what protects its samples
abbrev pub sinf_of : SealPlan → Sinf
sinf_of plan = record { scheme = plan.scheme; tenc = tenc_of plan }

-- version 0, no flags, two times, and the track id
unfoldable pub tkhd_body : ℕ → List ℕ
tkhd_body id = replicate 12 0 ++ to_be_bytes w32 id

-- a visual sample entry: 78 bytes of fields, and the sinf
unfoldable pub encv_body : SealPlan → List ℕ
encv_body plan = replicate 78 0 ++ boxed (codes "sinf") (sinf_body (sinf_of plan))

-- version 0, no flags, and one entry
unfoldable pub stsd_body : SealPlan → List ℕ
stsd_body plan = 0 ∷ 0 ∷ 0 ∷ 0 ∷ (to_be_bytes w32 1 ++ boxed (codes "encv") (encv_body plan))

-- version 0, no flags, no size and no samples
abbrev pub stsz_body : List ℕ
stsz_body = replicate 12 0

-- the sample table: its entry, and no samples
unfoldable pub stbl_body : SealPlan → List ℕ
stbl_body plan = boxed (codes "stsd") (stsd_body plan) ++ boxed (codes "stsz") stsz_body

-- the path to the sample table
abbrev pub mdia_body : SealPlan → List ℕ
mdia_body plan = boxed (codes "minf") (boxed (codes "stbl") (stbl_body plan))

-- a track: its id, and its sample table
unfoldable pub trak_body : SealPlan → ℕ → List ℕ
trak_body plan id = boxed (codes "tkhd") (tkhd_body id) ++ boxed (codes "mdia") (mdia_body plan)

-- a track in its box
abbrev pub trak_box : SealPlan → ℕ → List ℕ
trak_box plan id = boxed (codes "trak") (trak_body plan id)

-- version 0, no flags, the track id, the first sample entry, and no duration, size and flags
unfoldable pub trex_body : ℕ → List ℕ
trex_body id = 0 ∷ 0 ∷ 0 ∷ 0 ∷ (to_be_bytes w32 id ++ (to_be_bytes w32 1 ++ replicate 12 0))

-- the same in its box
abbrev pub trex_box : ℕ → List ℕ
trex_box id = boxed (codes "trex") (trex_body id)

-- the tracks, then what holds for their samples, then the box that tells the key id
unfoldable pub moov_body : SealPlan → List ℕ → List ℕ
moov_body plan tracks =
    flat_map (trak_box plan) tracks
    ++ (boxed (codes "mvex") (flat_map trex_box tracks) ++ pssh_box (pssh_of plan))

-- ---- a movie fragment

-- version 0, flag 0x20000 (offsets count from the moof), and the track id
unfoldable pub tfhd_body : ℕ → List ℕ
tfhd_body id = 0 ∷ 2 ∷ 0 ∷ 0 ∷ to_be_bytes w32 id

-- version 0, flags 0x1 and 0x200, the count of the samples, the offset of the first, and the size of each
unfoldable pub trun_body : ℕ → List ℕ → List ℕ
trun_body offset sizes = 0 ∷ 0 ∷ 2 ∷ 1 ∷ (to_be_bytes w32 (length sizes) ++ (to_be_bytes w32 offset ++ flat_map (to_be_bytes w32) sizes))

-- the boxes of a track fragment
unfoldable pub traf_body : ℕ → ℕ → List ℕ → List SencItem → List ℕ
traf_body offset track sizes items =
    boxed (codes "tfhd") (tfhd_body track)
    ++ (boxed (codes "trun") (trun_body offset sizes)
    ++ boxed (codes "senc") (senc_body (record { items = items; flag2 = true })))

-- an IV that stands beside the sample: in `cbcs` that of the tenc serves
abbrev pub own_iv : Scheme → Iv → Option Iv
own_iv Cenc iv = Some iv
own_iv Cbcs iv = None

-- what the senc says of a sample
abbrev pub item_in : Option Protect → SencItem
item_in None = record { iv = None; subs = [] }
item_in (Some p) = record { iv = own_iv p.scheme p.iv; subs = p.subs }

abbrev pub item_of : EncSample → SencItem
item_of s = item_in s.protect

-- the track fragment of a part whose data has this offset
abbrev pub traf_box : ℕ → TrackPart → List ℕ
traf_box offset p = boxed (codes "traf") (traf_body offset p.track (map sample_bytes p.samples) (map item_of p.samples))

-- a track fragment for each part; the data of the parts follow each other
abbrev pub traf_boxes : ℕ → List TrackPart → List ℕ
traf_boxes offset [] = []
traf_boxes offset (p ∷ ps) = traf_box offset p ++ traf_boxes (offset + part_bytes p) ps

-- the data begins behind the movie fragment and the 8 bytes of the header of its mdat
abbrev pub moof_body : Scheme → List TrackPart → List ℕ
moof_body scheme parts = traf_boxes (moof_length scheme parts + 8) parts

-- the bytes of the samples of a part
abbrev pub part_data : TrackPart → List ℕ
part_data p = flat_map (λ (s : EncSample). s.bytes) p.samples

-- the bytes of all samples, in the order of the parts
abbrev pub mdat_body : List TrackPart → List ℕ
mdat_body parts = flat_map part_data parts

-- the boxes of a fragment with these parts
abbrev pub part_boxes : Scheme → List TrackPart → List ℕ
part_boxes scheme parts = boxed (codes "moof") (moof_body scheme parts) ++ boxed (codes "mdat") (mdat_body parts)

abbrev pub fragment_boxes : Scheme → Fragment → List ℕ
fragment_boxes scheme f = part_boxes scheme f.parts

-- ---- the file

abbrev pub sealed_file : SealPlan → Media → List ℕ
sealed_file plan m = boxed (codes "moov") (moov_body plan m.tracks) ++ flat_map (fragment_boxes plan.scheme) m.fragments
