-- Initialization data has no more bytes than the boxes that it is made of.
use Rattle.std.proofs.Common.{◌≡◌, ℕ, ◌-◌, ◌≤◌, List, [], ◌∷◌, length, Result, Ok, Err, sym, subst, arith, length-append}
use Rattle.std.specs.Prelude.{IfOk}
use Rattle.std.specs.List.{flat_map, sum_by}
use Rattle.std.proofs.lemmas.List.Sums.{sum_by-cons}
use Rattle.eme_types.specs.declared.media.InitData.{InitData}
use Rattle.eme_types.specs.declared.media.InitKind.TheVariants.{Cenc}
use Rattle.eme_types.specs.declared.media.TrackPart.{TrackPart}
use Rattle.eme_types.specs.declared.media.Fragment.{Fragment}
use Rattle.frag_boxes.specs.declared.records.Span.{Span}
use Rattle.frag_boxes.specs.declared.records.Moof.{Moof}
use Rattle.frag_boxes.specs.Extents.{span_bytes}
use Rattle.sample_aux.specs.declared.fault.AuxFault.{AuxFault}
use Rattle.sample_aux.specs.declared.protection.MovieProtection.{MovieProtection}
use Rattle.sample_aux.specs.declared.fragment.Room.{Room}
use Rattle.sample_aux.specs.Faults.{Gives}
use Rattle.sample_aux.specs.Spans.{part_of, box_bytes}
use Rattle.sample_aux.specs.Inits.{inits_of}
use Rattle.sample_aux.specs.Bounds.{init_bytes, fragment_init_bytes}
use Rattle.sample_aux.specs.Resolve.{all_joined, trafs_resolved, begin, fragment_of, known_resolved}
use Rattle.sample_aux.proofs.Within.{bound, same_ok, part_short}

box_short : (file : List ℕ) (s : Span) → length (box_bytes file s) ≤ span_bytes s
box_short file s =
    let header = part_short file s.place (s.body_place - s.place) in
    let body = part_short file s.body_place s.len in
    omega (arith, header, body, length-append (part_of file s.place (s.body_place - s.place)) (part_of file s.body_place s.len))

boxes_short : (file : List ℕ) (ss : List Span) → length (flat_map (λ s. box_bytes file s) ss) ≤ sum_by span_bytes ss
boxes_short file [] = omega arith
boxes_short file (s ∷ ss) =
    let one = box_short file s in
    let more = boxes_short file ss in
    omega (arith, one, more, length-append (box_bytes file s) (flat_map (λ s. box_bytes file s) ss), sum_by-cons span_bytes s ss)

pub inits_short : (file : List ℕ) (ss : List Span) → sum_by init_bytes (inits_of file ss) ≤ sum_by span_bytes ss
inits_short file [] = omega arith
inits_short file (s ∷ ss) =
    let all = boxes_short file (s ∷ ss) in
    let init : InitData = record { kind = Cenc; bytes = flat_map (λ x. box_bytes file x) (s ∷ ss) } in
    omega (arith, all, sum_by-cons init_bytes init [])

one_init : (file : List ℕ) (ss : List Span) → length (inits_of file ss) ≤ 1
one_init file [] = omega arith
one_init file (s ∷ ss) = omega arith

-- the answer of init_data_of
pub made_few : {E : Type 0} (r : Result (List InitData) E) (file : List ℕ) (ss : List Span) → IfOk r (λ x. x ≡ inits_of file ss) → IfOk r (λ x. length x ≤ 1)
made_few (Ok x) file ss h = subst (λ (y : List InitData). length y ≤ 1) (sym h) (one_init file ss)
made_few (Err e) file ss h = tt

pub made_short : {E : Type 0} (r : Result (List InitData) E) (file : List ℕ) (ss : List Span) → IfOk r (λ x. x ≡ inits_of file ss) → IfOk r (λ x. sum_by init_bytes x ≤ sum_by span_bytes ss)
made_short (Ok x) file ss h = subst (λ (y : List InitData). sum_by init_bytes y ≤ sum_by span_bytes ss) (sym h) (inits_short file ss)
made_short (Err e) file ss h = tt

abbrev pub InitsWithin : Moof → Fragment → Type 0
InitsWithin moof f = (length f.inits ≤ 1) × (fragment_init_bytes f ≤ sum_by span_bytes moof.psshs)

pub fragment_inits : (file : List ℕ) (m : MovieProtection) (moof : Moof) (room : Room) (f : Fragment) → known_resolved file m moof room ≡ Ok f → InitsWithin moof f
unfolding known_resolved
fragment_inits file m moof room f e =
    let a = bound (all_joined [] (trafs_resolved file m moof.place (begin moof room) moof.trafs)) (λ (parts : List TrackPart). Ok (fragment_of file moof parts)) f e in
    let same : fragment_of file moof a.0 ≡ f = same_ok (fragment_of file moof a.0) f a.1.1 in
    subst (InitsWithin moof) same (one_init file moof.psshs, inits_short file moof.psshs)

pub inits_ok : (r : Result Fragment AuxFault) (file : List ℕ) (m : MovieProtection) (moof : Moof) (room : Room) → Gives (λ (f : Fragment). f) r (known_resolved file m moof room) → IfOk r (λ f. length f.inits ≤ 1)
inits_ok (Ok f) file m moof room h = (fragment_inits file m moof room f h).0
inits_ok (Err e) file m moof room h = tt

pub init_bytes_ok : (r : Result Fragment AuxFault) (file : List ℕ) (m : MovieProtection) (moof : Moof) (room : Room) → Gives (λ (f : Fragment). f) r (known_resolved file m moof room) → IfOk r (λ f. fragment_init_bytes f ≤ sum_by span_bytes moof.psshs)
init_bytes_ok (Ok f) file m moof room h = (fragment_inits file m moof room f h).1
init_bytes_ok (Err e) file m moof room h = tt
