-- A movie fragment that was written is read again as boxes: a track fragment for each part.
use Rattle.std.proofs.Common.{◌≡◌, ℕ, ◌+◌, ◌^◌, ◌<◌, true, false, List, [], ◌∷◌, ◌++◌, length, map, codes, Ok, refl, ap, arith}
use Rattle.std.specs.List.{All, sum_by}
use Rattle.std.proofs.lemmas.List.{length-map}
use Rattle.std.proofs.lemmas.List.Sums.{sum_by-cons}
use Rattle.std.proofs.lemmas.List.Elements.{All-nil, All-cons, All-head, All-tail}
use Rattle.eme_types.specs.declared.sample.EncSample.{EncSample}
use Rattle.eme_types.specs.declared.media.TrackPart.{TrackPart}
use Rattle.eme_types.specs.Fed.{sample_bytes, part_bytes}
use Rattle.iso_boxes.specs.Walk.{walk}
use Rattle.iso_boxes.specs.Writing.{boxed}
use Rattle.iso_boxes.specs.Children.{all_knowing}
use Rattle.prot_boxes.proofs.Again.{box_of}
use Rattle.prot_boxes.specs.Senc.{senc_body}
use Rattle.prot_boxes.specs.declared.senc.Senc.{Senc}
use Rattle.prot_boxes.specs.declared.senc.SencItem.{SencItem}
use Rattle.frag_boxes.specs.declared.records.Span.{Span}
use Rattle.frag_boxes.specs.declared.records.Traf.{Traf}
use Rattle.frag_boxes.specs.declared.records.Moof.{Moof}
use Rattle.frag_boxes.specs.declared.moof.TrafPart.TheVariants as part
use Rattle.frag_boxes.specs.declared.moof.MoofPart.TheVariants as moof_part
use Rattle.frag_boxes.specs.Moof.{header_fault, traf_box as traf_kind, part_at, head_seen, traf_at, moof_box, moof_part_at, trafs, psshs, moof_at}
use Rattle.seal_media.specs.Layout.{tfhd_body, trun_body, traf_body, traf_box, traf_boxes, item_of}
use Rattle.seal_media.proofs.BackStands.{Stands, stands_left, stands_body, stands_next}
use Rattle.seal_media.proofs.BackWalk.{reads_end, reads_on, reads_last}
use Rattle.seal_media.proofs.BackFields.{tfhd_read, tfhd_again, trun_read, trun_again}

-- ---- a track fragment

abbrev pub senc_said : List SencItem → Senc
senc_said items = record { items = items; flag2 = true }

-- where its run and its senc stand
abbrev pub trun_place : ℕ → ℕ → ℕ
trun_place place track = place + 8 + (8 + length (tfhd_body track))

abbrev pub senc_place : ℕ → ℕ → ℕ → List ℕ → ℕ
senc_place place offset track sizes = trun_place place track + (8 + length (trun_body offset sizes))

abbrev pub senc_span : ℕ → ℕ → ℕ → List ℕ → List SencItem → Span
senc_span place offset track sizes items = record { place = senc_place place offset track sizes; body_place = senc_place place offset track sizes + 8; len = length (senc_body (senc_said items)) }

-- the track fragment whose traf has this place
abbrev pub traf_read : ℕ → ℕ → ℕ → List ℕ → List SencItem → Traf
traf_read place offset track sizes items = record {
  place = place;
  tfhd = tfhd_read (place + 8) track;
  runs = trun_read (trun_place place track) offset sizes ∷ [];
  senc = senc_span place offset track sizes items ∷ [];
  saiz = [];
  saio = [];
  sgpd = [];
  sbgp = [];
}

-- the senc of a track fragment stands behind its run
pub senc_stands : (file : List ℕ) (place offset track : ℕ) (sizes : List ℕ) (items : List SencItem) → Stands file place (boxed (codes "traf") (traf_body offset track sizes items))
    → Stands file (senc_place place offset track sizes) (boxed (codes "senc") (senc_body (senc_said items)))
unfolding traf_body
senc_stands file place offset track sizes items s =
    let whole = stands_body file place (codes "traf") (boxed (codes "tfhd") (tfhd_body track) ++ (boxed (codes "trun") (trun_body offset sizes) ++ boxed (codes "senc") (senc_body (senc_said items)))) refl s in
    let run = stands_next file (place + 8) (codes "tfhd") (tfhd_body track) (boxed (codes "trun") (trun_body offset sizes) ++ boxed (codes "senc") (senc_body (senc_said items))) refl whole in
    stands_next file (trun_place place track) (codes "trun") (trun_body offset sizes) (boxed (codes "senc") (senc_body (senc_said items))) refl run

traf_again : (file : List ℕ) (place offset track : ℕ) (sizes : List ℕ) (items : List SencItem) → length file < 2 ^ 32 → track < 2 ^ 32 → offset < 2 ^ 31 → length sizes < 2 ^ 32 → All (λ n. n < 2 ^ 32) sizes
    → Stands file place (boxed (codes "traf") (traf_body offset track sizes items)) → traf_at (box_of (codes "traf") (traf_body offset track sizes items) place) ≡ Ok (traf_read place offset track sizes items)
unfolding traf_at traf_body traf_kind
traf_again file place offset track sizes items small fits near few each s =
    let whole = stands_body file place (codes "traf") (boxed (codes "tfhd") (tfhd_body track) ++ (boxed (codes "trun") (trun_body offset sizes) ++ boxed (codes "senc") (senc_body (senc_said items)))) refl s in
    let run = stands_next file (place + 8) (codes "tfhd") (tfhd_body track) (boxed (codes "trun") (trun_body offset sizes) ++ boxed (codes "senc") (senc_body (senc_said items))) refl whole in
    let last = stands_next file (trun_place place track) (codes "trun") (trun_body offset sizes) (boxed (codes "senc") (senc_body (senc_said items))) refl run in
    let third = reads_last header_fault part_at head_seen true file (codes "senc") (senc_body (senc_said items)) (senc_place place offset track sizes) false
    (part.Placed (codes "senc") (senc_span place offset track sizes items)) refl small last refl in
    let second = reads_on header_fault part_at head_seen true file (codes "trun") (trun_body offset sizes) (boxed (codes "senc") (senc_body (senc_said items))) (trun_place place track) false
    (part.Run (trun_read (trun_place place track) offset sizes))
    (part.Placed (codes "senc") (senc_span place offset track sizes items) ∷ []) refl small run
    (rw (trun_again (trun_place place track) offset sizes near few each) refl) third in
    let first = reads_on header_fault part_at head_seen false file (codes "tfhd") (tfhd_body track) (boxed (codes "trun") (trun_body offset sizes) ++ boxed (codes "senc") (senc_body (senc_said items))) (place + 8) false
    (part.Head (tfhd_read (place + 8) track))
    (part.Run (trun_read (trun_place place track) offset sizes) ∷ part.Placed (codes "senc") (senc_span place offset track sizes items) ∷ [])
    refl small whole
    (rw (tfhd_again (place + 8) track fits) refl) second in
    rw first refl

-- ---- the track fragments of the parts

-- a part fits its fields
pub record PartFits (p : TrackPart) : Type 0 where
  pub track : p.track < 2 ^ 32
  pub count : length p.samples < 2 ^ 32

-- each size is at most the sum
sizes_small : (ss : List EncSample) (n : ℕ) → sum_by sample_bytes ss < n → All (λ k. k < n) (map sample_bytes ss)
sizes_small [] n lt = All-nil (λ k. k < n)
sizes_small (s ∷ ss) n lt =
    let sum = sum_by-cons sample_bytes s ss in
    All-cons (λ k. k < n) (sample_bytes s) (map sample_bytes ss) (omega arith) (sizes_small ss n (omega arith))

abbrev pub part_sizes : TrackPart → List ℕ
part_sizes p = map sample_bytes p.samples

abbrev pub part_items : TrackPart → List SencItem
part_items p = map item_of p.samples

-- the body of the traf of a part
abbrev pub part_body : ℕ → TrackPart → List ℕ
part_body offset p = traf_body offset p.track (part_sizes p) (part_items p)

-- the track fragment of a part
abbrev pub part_read : ℕ → ℕ → TrackPart → Traf
part_read place offset p = traf_read place offset p.track (part_sizes p) (part_items p)

-- the track fragments of parts, the first of which has this place and this data offset
abbrev pub trafs_from : ℕ → ℕ → List TrackPart → List Traf
trafs_from place offset [] = []
trafs_from place offset (p ∷ ps) = part_read place offset p ∷ trafs_from (place + (8 + length (part_body offset p))) (offset + part_bytes p) ps

trafs_again : (file : List ℕ) (place offset : ℕ) (ps : List TrackPart) → length file < 2 ^ 32 → All PartFits ps → offset + sum_by part_bytes ps < 2 ^ 31 → Stands file place (traf_boxes offset ps)
    → all_knowing header_fault (λ (none : Unit {0}) b. moof_part_at b) (λ none x. tt) tt (walk (traf_boxes offset ps) place false) ≡ Ok (map moof_part.Fragment (trafs_from place offset ps))
unfolding moof_box
trafs_again file place offset [] small fits near s = reads_end header_fault (λ (none : Unit {0}) b. moof_part_at b) (λ none x. tt) tt place false
trafs_again file place offset (p ∷ ps) small fits near s =
    let here = All-head PartFits p ps fits in
    let sum = sum_by-cons part_bytes p ps in
    let each = sizes_small p.samples (2 ^ 32) (omega arith) in
    let few : length (part_sizes p) < 2 ^ 32 = omega (arith, here.count, length-map p.samples sample_bytes) in
    reads_on header_fault (λ (none : Unit {0}) b. moof_part_at b) (λ none x. tt) tt file (codes "traf") (part_body offset p) (traf_boxes (offset + part_bytes p) ps) place false
    (moof_part.Fragment (part_read place offset p)) (map moof_part.Fragment (trafs_from (place + (8 + length (part_body offset p))) (offset + part_bytes p) ps)) refl small s
    (rw (traf_again file place offset p.track (part_sizes p) (part_items p) small here.track (omega arith) few each (stands_left file place (traf_box offset p) (traf_boxes (offset + part_bytes p) ps) s)) refl)
    (trafs_again file (place + (8 + length (part_body offset p))) (offset + part_bytes p) ps small (All-tail PartFits p ps fits) (omega arith) (stands_next file place (codes "traf") (part_body offset p) (traf_boxes (offset + part_bytes p) ps) refl s))

only_trafs : (ts : List Traf) → trafs (map moof_part.Fragment ts) ≡ ts
only_trafs [] = refl
only_trafs (t ∷ ts) = ap (λ (us : List Traf). t ∷ us) (only_trafs ts)

no_psshs : (ts : List Traf) → psshs (map moof_part.Fragment ts) ≡ []
no_psshs [] = refl
no_psshs (t ∷ ts) = no_psshs ts

-- the movie fragment whose moof has this place
abbrev pub moof_read : ℕ → ℕ → List TrackPart → Moof
moof_read place offset ps = record { place = place; trafs = trafs_from (place + 8) offset ps; psshs = [] }

pub moof_again : (file : List ℕ) (place offset : ℕ) (ps : List TrackPart) → length file < 2 ^ 32 → All PartFits ps → offset + sum_by part_bytes ps < 2 ^ 31 → Stands file place (boxed (codes "moof") (traf_boxes offset ps))
    → moof_at (box_of (codes "moof") (traf_boxes offset ps) place) ≡ Ok (moof_read place offset ps)
unfolding moof_at
moof_again file place offset ps small fits near s =
    let body = stands_body file place (codes "moof") (traf_boxes offset ps) refl s in
    rw (trafs_again file (place + 8) offset ps small fits near body, only_trafs (trafs_from (place + 8) offset ps), no_psshs (trafs_from (place + 8) offset ps)) refl
