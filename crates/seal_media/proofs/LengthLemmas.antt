-- How long the boxes of the layout are.
use Rattle.std.proofs.Common.{◌≡◌, ℕ, ◌+◌, ◌*◌, ◌≤◌, List, [], ◌∷◌, ◌++◌, length, true, refl, arith, flat_map, codes, length-append, map}
use Rattle.std.specs.Prelude.{replicate}
use Rattle.std.specs.Int.{w32, to_be_bytes}
use Rattle.std.specs.List.{sum_by}
use Rattle.std.proofs.lemmas.List.{length-map}
use Rattle.std.proofs.lemmas.List.Sums.{sum_by-cons}
use Rattle.eme_types.specs.declared.sample.EncSample.{EncSample}
use Rattle.eme_types.specs.declared.sample.Scheme.{Scheme}
use Rattle.eme_types.specs.declared.sample.Scheme.TheVariants.{Cenc, Cbcs}
use Rattle.eme_types.specs.declared.media.TrackPart.{TrackPart}
use Rattle.eme_types.specs.Fed.{sample_bytes, part_samples, part_bytes}
use Rattle.iso_boxes.specs.Writing.{boxed}
use Rattle.prot_boxes.specs.Seig.{seig_body}
use Rattle.prot_boxes.specs.Tenc.{tenc_body}
use Rattle.prot_boxes.specs.Sinf.{sinf_body}
use Rattle.prot_boxes.specs.Senc.{iv_body, subs_body, item_body, senc_body}
use Rattle.prot_boxes.specs.declared.senc.SencItem.{SencItem}
use Rattle.prot_boxes.proofs.Again.{boxed_length}
use Rattle.prot_boxes.proofs.SinfAgain.{sinf_length}
use Rattle.init_data.specs.Pssh.{pssh_box, pssh_body}
use Rattle.seal_media.specs.declared.plan.SealPlan.{SealPlan}
use Rattle.seal_media.specs.Sealed.{iv_of, pair_of, pssh_of}
use Rattle.seal_media.specs.Lengths.{track_length, entry_length, traf_length, moov_length}
use Rattle.seal_media.specs.Layout.{tenc_of, sinf_of, own_iv, tkhd_body, encv_body, stsd_body, stsz_body, stbl_body, mdia_body, trak_body, trak_box, trex_body, trex_box, moov_body, tfhd_body, trun_body, traf_body}
use Rattle.seal_media.specs.Views.{item_at, items_from, traf_at, trafs_at}

-- the key id and the IV of a plan have 16 bytes
pub record HasSixteen (plan : SealPlan) : Type 0 where
  pub kid : length plan.kid ≡ 16
  pub iv : length plan.iv ≡ 16

-- ---- the movie

-- what a tenc has behind the key id: the constant IV and its size
abbrev pub constant_length : Scheme → ℕ
constant_length Cenc = 0
constant_length Cbcs = 17

pub small : (scheme : Scheme) → constant_length scheme ≤ 17
small Cenc = omega arith
small Cbcs = omega arith

tenc_by : (scheme : Scheme) (kid iv key : List ℕ) (lead : ℕ) → length kid ≡ 16 → length iv ≡ 16
    → length (tenc_body (tenc_of (record { scheme = scheme; kid = kid; key = record { bytes = key }; iv = iv; lead = lead }))) ≡ 24 + constant_length scheme
unfolding tenc_body seig_body
tenc_by Cenc kid iv key lead k i = omega (arith, length-append kid [], k)
tenc_by Cbcs kid iv key lead k i = omega (arith, length-append kid (16 ∷ iv), k, i)

tenc_length : (plan : SealPlan) → HasSixteen plan → length (tenc_body (tenc_of plan)) ≡ 24 + constant_length plan.scheme
tenc_length plan has = tenc_by plan.scheme plan.kid plan.iv plan.key.bytes plan.lead has.kid has.iv

pub sinf_size : (plan : SealPlan) → HasSixteen plan → length (sinf_body (sinf_of plan)) ≡ 72 + constant_length plan.scheme
sinf_size plan has = omega (arith, sinf_length (sinf_of plan), tenc_length plan has)

pub encv_size : (plan : SealPlan) → HasSixteen plan → length (encv_body plan) ≡ 158 + constant_length plan.scheme
unfolding encv_body
encv_size plan has = omega (arith, sinf_size plan has, boxed_length (codes "sinf") (sinf_body (sinf_of plan)) refl, length-append (replicate 78 0) (boxed (codes "sinf") (sinf_body (sinf_of plan))))

pub stsd_size : (plan : SealPlan) → HasSixteen plan → length (stsd_body plan) ≡ 174 + constant_length plan.scheme
unfolding stsd_body
stsd_size plan has = omega (arith, encv_size plan has, boxed_length (codes "encv") (encv_body plan) refl)

pub stbl_size : (plan : SealPlan) → HasSixteen plan → length (stbl_body plan) ≡ 202 + constant_length plan.scheme
unfolding stbl_body
stbl_size plan has =
    omega (arith, stsd_size plan has, boxed_length (codes "stsd") (stsd_body plan) refl, boxed_length (codes "stsz") stsz_body refl, length-append (boxed (codes "stsd") (stsd_body plan)) (boxed (codes "stsz") stsz_body))

pub mdia_size : (plan : SealPlan) → HasSixteen plan → length (mdia_body plan) ≡ 218 + constant_length plan.scheme
mdia_size plan has = omega (arith, stbl_size plan has, boxed_length (codes "stbl") (stbl_body plan) refl, boxed_length (codes "minf") (boxed (codes "stbl") (stbl_body plan)) refl)

pub tkhd_size : (id : ℕ) → length (tkhd_body id) ≡ 16
unfolding tkhd_body
tkhd_size id = refl

pub trak_size : (plan : SealPlan) (id : ℕ) → HasSixteen plan → length (trak_body plan id) ≡ 250 + constant_length plan.scheme
unfolding trak_body
trak_size plan id has =
    omega (arith, mdia_size plan has, tkhd_size id, boxed_length (codes "tkhd") (tkhd_body id) refl, boxed_length (codes "mdia") (mdia_body plan) refl, length-append (boxed (codes "tkhd") (tkhd_body id)) (boxed (codes "mdia") (mdia_body plan)))

pub trex_size : (id : ℕ) → length (trex_body id) ≡ 24
unfolding trex_body
trex_size id = refl

pub traks_size : (plan : SealPlan) (tracks : List ℕ) → HasSixteen plan → length (flat_map (trak_box plan) tracks) ≡ length tracks * (258 + constant_length plan.scheme)
traks_size plan [] has = grind arith
traks_size plan (id ∷ ids) has =
    grind (arith, traks_size plan ids has, trak_size plan id has, boxed_length (codes "trak") (trak_body plan id) refl, length-append (trak_box plan id) (flat_map (trak_box plan) ids))

pub trexes_size : (tracks : List ℕ) → length (flat_map trex_box tracks) ≡ length tracks * 32
trexes_size [] = refl
trexes_size (id ∷ ids) = omega (arith, trexes_size ids, trex_size id, boxed_length (codes "trex") (trex_body id) refl, length-append (trex_box id) (flat_map trex_box ids))

pub pssh_size : (plan : SealPlan) → HasSixteen plan → length (pssh_body (pssh_of plan)) ≡ 44
unfolding pssh_body
pssh_size plan has = omega (arith, has.kid, length-append plan.kid [], length-append (plan.kid ++ []) (0 ∷ 0 ∷ 0 ∷ 0 ∷ []))

track_sum : (scheme : Scheme) → track_length scheme ≡ 258 + constant_length scheme + 32
track_sum Cenc = refl
track_sum Cbcs = refl

pub moov_size : (plan : SealPlan) (tracks : List ℕ) → HasSixteen plan → 8 + length (moov_body plan tracks) ≡ moov_length plan.scheme tracks
unfolding moov_body
moov_size plan tracks has =
    grind (
      arith,
      traks_size plan tracks has,
      trexes_size tracks,
      pssh_size plan has,
      track_sum plan.scheme,
      boxed_length (codes "mvex") (flat_map trex_box tracks) refl,
      boxed_length (codes "pssh") (pssh_body (pssh_of plan)) refl,
      length-append (boxed (codes "mvex") (flat_map trex_box tracks)) (pssh_box (pssh_of plan)),
      length-append (flat_map (trak_box plan) tracks) (boxed (codes "mvex") (flat_map trex_box tracks) ++ pssh_box (pssh_of plan)),
    )

moov_bound : (scheme : Scheme) (tracks : List ℕ) → length tracks ≤ 8 → moov_length scheme tracks ≤ 2524
moov_bound Cenc tracks few = omega arith
moov_bound Cbcs tracks few = omega arith

pub moov_fits : (plan : SealPlan) (tracks : List ℕ) → HasSixteen plan → length tracks ≤ 8 → 8 + length (moov_body plan tracks) ≤ 2524
moov_fits plan tracks has few = omega (arith, moov_size plan tracks has, moov_bound plan.scheme tracks few)

-- ---- the movie fragments

iv_size : (scheme : Scheme) (iv : List ℕ) (number : ℕ) → length (iv_body (own_iv scheme (iv_of scheme iv number))) + 12 ≡ entry_length scheme
unfolding iv_of
iv_size Cenc iv number = refl
iv_size Cbcs iv number = refl

item_size : (plan : SealPlan) (number size : ℕ) → length (item_body true (item_at plan number size)) + 4 ≡ entry_length plan.scheme
unfolding subs_body
item_size plan number size = omega (arith, iv_size plan.scheme plan.iv number, length-append (iv_body (own_iv plan.scheme (iv_of plan.scheme plan.iv number))) (subs_body (pair_of plan size ∷ [])))

pub items_count : (plan : SealPlan) (number : ℕ) (samples : List EncSample) → length (items_from plan number samples) ≡ length samples
items_count plan number [] = refl
items_count plan number (s ∷ ss) = omega (arith, items_count plan (number + 1) ss)

pub items_size : (plan : SealPlan) (number : ℕ) (samples : List EncSample)
    → length (flat_map (item_body true) (items_from plan number samples)) + length samples * 4 ≡ length samples * entry_length plan.scheme
items_size plan number [] = grind arith
items_size plan number (s ∷ ss) =
    grind (arith, items_size plan (number + 1) ss, item_size plan number (sample_bytes s), length-append (item_body true (item_at plan number (sample_bytes s))) (flat_map (item_body true) (items_from plan (number + 1) ss)))

sizes_size : (sizes : List ℕ) → length (flat_map (to_be_bytes w32) sizes) ≡ length sizes * 4
sizes_size [] = refl
sizes_size (n ∷ ns) = omega (arith, sizes_size ns, length-append (to_be_bytes w32 n) (flat_map (to_be_bytes w32) ns))

pub tfhd_size : (id : ℕ) → length (tfhd_body id) ≡ 8
unfolding tfhd_body
tfhd_size id = refl

pub trun_size : (offset : ℕ) (sizes : List ℕ) → length (trun_body offset sizes) ≡ 12 + length sizes * 4
unfolding trun_body
trun_size offset sizes = omega (arith, sizes_size sizes)

pub senc_size : (items : List SencItem) → length (senc_body (record { items = items; flag2 = true })) ≡ 8 + length (flat_map (item_body true) items)
unfolding senc_body
senc_size items = omega arith

pub traf_size : (offset track : ℕ) (sizes : List ℕ) (items : List SencItem) → length (traf_body offset track sizes items) ≡ 52 + length sizes * 4 + length (flat_map (item_body true) items)
unfolding traf_body
traf_size offset track sizes items =
    let senc = senc_body (record { items = items; flag2 = true }) in
    omega (
      arith,
      tfhd_size track,
      trun_size offset sizes,
      senc_size items,
      boxed_length (codes "tfhd") (tfhd_body track) refl,
      boxed_length (codes "trun") (trun_body offset sizes) refl,
      boxed_length (codes "senc") senc refl,
      length-append (boxed (codes "tfhd") (tfhd_body track)) (boxed (codes "trun") (trun_body offset sizes) ++ boxed (codes "senc") senc),
      length-append (boxed (codes "trun") (trun_body offset sizes)) (boxed (codes "senc") senc),
    )

-- of clear samples
pub traf_at_size : (plan : SealPlan) (number offset track : ℕ) (samples : List EncSample)
    → 8 + length (traf_body offset track (map sample_bytes samples) (items_from plan number samples)) ≡ 60 + length samples * entry_length plan.scheme
traf_at_size plan number offset track samples =
    omega (arith, traf_size offset track (map sample_bytes samples) (items_from plan number samples), items_size plan number samples, length-map samples sample_bytes)

pub trafs_at_size : (plan : SealPlan) (number offset : ℕ) (parts : List TrackPart) → length (trafs_at plan number offset parts) ≡ sum_by (traf_length plan.scheme) parts
trafs_at_size plan number offset [] = refl
trafs_at_size plan number offset (p ∷ ps) =
    let body = traf_body offset p.track (map sample_bytes p.samples) (items_from plan number p.samples) in
    let rest = trafs_at plan (number + part_samples p) (offset + part_bytes p) ps in
    let whole : length (trafs_at plan number offset (p ∷ ps)) ≡ length (traf_at plan number offset p) + length rest = length-append (traf_at plan number offset p) rest in
    let box : length (traf_at plan number offset p) ≡ 8 + length body = boxed_length (codes "traf") body refl in
    let sum : sum_by (traf_length plan.scheme) (p ∷ ps) ≡ 60 + length p.samples * entry_length plan.scheme + sum_by (traf_length plan.scheme) ps = sum_by-cons (traf_length plan.scheme) p ps in
    omega (
      arith,
      sum,
      whole,
      box,
      traf_at_size plan number offset p.track p.samples,
      trafs_at_size plan (number + part_samples p) (offset + part_bytes p) ps,
    )
