-- A track fragment is gathered box after box.
use Rattle.std.proofs.Common.{◌≡◌, ℕ, Bool, List, [], ◌∷◌, ◌++◌, None, Result, Ok, refl, ◌∙◌, append_assoc}
use Rattle.std.specs.Prelude.{is_some, codes}
use Rattle.std.proofs.lemmas.List.{append-nil}
use Rattle.iso_boxes.specs.Walk.{Found, Walked, inside}
use Rattle.iso_boxes.specs.Children.{◌>>=◌, required}
use Rattle.iso_boxes.proofs.Gathering.{Reader, Gathers, left, ends, chosen, chosen_more, chosen_none, known_more}
use Rattle.frag_boxes.specs.declared.fault.FragKind.TheVariants.{NoTfhd}
use Rattle.frag_boxes.specs.declared.fault.FragFault.{FragFault}
use Rattle.frag_boxes.specs.declared.records.Traf.{Traf}
use Rattle.frag_boxes.specs.declared.records.Moof.{Moof}
use Rattle.frag_boxes.specs.declared.moof.TrafPart.{TrafPart}
use Rattle.frag_boxes.specs.declared.moof.TrafPart.TheVariants as part
use Rattle.frag_boxes.specs.declared.moof.TrafParts.{TrafParts}
use Rattle.frag_boxes.specs.declared.moof.MoofParts.{MoofParts}
use Rattle.frag_boxes.specs.declared.moof.MoofPart.{MoofPart}
use Rattle.frag_boxes.specs.declared.moof.MoofPart.TheVariants as moof_part
use Rattle.frag_boxes.specs.Moof.{fault_at, header_fault, part_at, head_seen, heads, runs, spans_of, traf_at, moof_part_at, trafs, psshs, moof_at}
use Rattle.frag_boxes.specs.Gathering.{nothing, added, moof_added}

abbrev closing : ℕ → TrafParts → List TrafPart → Result Traf FragFault
closing place s ps =
    required (fault_at place NoTfhd) (chosen s.tfhd (heads ps)) >>= λ tfhd.
    Ok (record { place = place; tfhd = tfhd; runs = s.runs ++ runs ps; senc = s.senc ++ spans_of (codes "senc") ps; saiz = s.saiz ++ spans_of (codes "saiz") ps; saio = s.saio ++ spans_of (codes "saio") ps; sgpd = s.sgpd ++ spans_of (codes "sgpd") ps; sbgp = s.sbgp ++ spans_of (codes "sbgp") ps })

abbrev pub traf_reader : ℕ → Reader FragFault TrafPart Bool TrafParts Traf
traf_reader place = record { header = header_fault; read = part_at; learn = head_seen; know = λ s. is_some s.tfhd; add = added; finish = closing place }

knows : (s : TrafParts) (p : TrafPart) → is_some (added s p).tfhd ≡ head_seen (is_some s.tfhd) p
knows s (part.Head h) = known_more s.tfhd h
knows s (part.Run r) = refl
knows s (part.Placed k x) = refl
knows s part.Other = refl

adds : (place : ℕ) (s : TrafParts) (p : TrafPart) (ps : List TrafPart) → closing place s (p ∷ ps) ≡ closing place (added s p) ps
adds place s (part.Head h) ps = rw (chosen_more s.tfhd h (heads ps)) refl
adds place s (part.Run r) ps = simp append_assoc
adds place s (part.Placed k x) ps = simp append_assoc
adds place s part.Other ps = refl

pub traf_gathers : (place : ℕ) → Gathers (traf_reader place)
traf_gathers place = record { knows = knows; adds = adds place }

pub traf_starts : (b : Found) → left (traf_reader b.place) nothing (inside b) ≡ traf_at b
unfolding left traf_at
traf_starts b = refl

abbrev pub whole_traf : ℕ → TrafParts → Result Traf FragFault
whole_traf place s =
    required (fault_at place NoTfhd) s.tfhd >>= λ tfhd.
    Ok (record { place = place; tfhd = tfhd; runs = s.runs; senc = s.senc; saiz = s.saiz; saio = s.saio; sgpd = s.sgpd; sbgp = s.sbgp })

pub traf_ends : (place : ℕ) (s : TrafParts) (w : Walked) (total : Result Traf FragFault) → w ≡ record { boxes = []; fault = None } → left (traf_reader place) s w ≡ total → total ≡ whole_traf place s
traf_ends place s w total e so_far = ends (traf_reader place) s w total e so_far ∙ rw (chosen_none s.tfhd) (simp append-nil)

-- ---- a movie fragment

abbrev moof_closing : ℕ → MoofParts → List MoofPart → Result Moof FragFault
moof_closing place s ps = Ok (record { place = place; trafs = s.trafs ++ trafs ps; psshs = s.psshs ++ psshs ps })

abbrev pub moof_reader : ℕ → Reader FragFault MoofPart (Unit {0}) MoofParts Moof
moof_reader place = record { header = header_fault; read = λ none b. moof_part_at b; learn = λ none p. tt; know = λ s. tt; add = moof_added; finish = moof_closing place }

moof_adds : (place : ℕ) (s : MoofParts) (p : MoofPart) (ps : List MoofPart) → moof_closing place s (p ∷ ps) ≡ moof_closing place (moof_added s p) ps
moof_adds place s (moof_part.Fragment t) ps = simp append_assoc
moof_adds place s (moof_part.Pssh x) ps = simp append_assoc
moof_adds place s moof_part.Other ps = refl

pub moof_gathers : (place : ℕ) → Gathers (moof_reader place)
moof_gathers place = record { knows = λ s p. refl; adds = moof_adds place }

pub moof_starts : (b : Found) → left (moof_reader b.place) (record { trafs = []; psshs = [] }) (inside b) ≡ moof_at b
unfolding left moof_at
moof_starts b = refl

pub moof_ends : (place : ℕ) (s : MoofParts) (w : Walked) (total : Result Moof FragFault) → w ≡ record { boxes = []; fault = None } → left (moof_reader place) s w ≡ total → total ≡ Ok (record { place = place; trafs = s.trafs; psshs = s.psshs })
moof_ends place s w total e so_far = ends (moof_reader place) s w total e so_far ∙ simp append-nil
