-- A sinf is gathered box after box.
use Rattle.std.proofs.Common.{◌≡◌, ◌⊎◌, inl, inr, ℕ, List, [], ◌∷◌, None, Result, Err, refl, ◌∙◌}
use Rattle.std.specs.Prelude.{is_some}
use Rattle.iso_boxes.specs.Walk.{Found, Walked, before, inside}
use Rattle.iso_boxes.proofs.Gathering.{Reader, Gathers, left, ends, stops, chosen, chosen_more, chosen_none, known_more}
use Rattle.prot_boxes.specs.declared.fault.ProtFault.{ProtFault}
use Rattle.prot_boxes.specs.declared.sinf.Sinf.{Sinf}
use Rattle.prot_boxes.specs.declared.sinf.SinfPart.{SinfPart}
use Rattle.prot_boxes.specs.declared.sinf.SinfPart.TheVariants as part
use Rattle.prot_boxes.specs.declared.sinf.SinfParts.{SinfParts}
use Rattle.prot_boxes.specs.Answers.{header_fault}
use Rattle.prot_boxes.specs.Gathering.{added}
use Rattle.prot_boxes.specs.Sinf.{Seen, part_at, learn, schms, schis, sinf_of, sinf_at}

abbrev closing : ℕ → SinfParts → List SinfPart → Result Sinf ProtFault
closing place s ps = sinf_of place (chosen s.schm (schms ps)) (chosen s.schi (schis ps))

abbrev pub known : SinfParts → Seen
known s = record { schm = is_some s.schm; schi = is_some s.schi }

abbrev pub sinf_reader : ℕ → Reader ProtFault SinfPart Seen SinfParts Sinf
sinf_reader place = record { header = header_fault; read = part_at; learn = learn; know = known; add = added; finish = closing place }

knows : (s : SinfParts) (p : SinfPart) → known (added s p) ≡ learn (known s) p
knows s (part.Scheme x) = rw (known_more s.schm x) refl
knows s (part.Info x) = rw (known_more s.schi x) refl
knows s part.Other = refl

adds : (place : ℕ) (s : SinfParts) (p : SinfPart) (ps : List SinfPart) → closing place s (p ∷ ps) ≡ closing place (added s p) ps
adds place s (part.Scheme x) ps = rw (chosen_more s.schm x (schms ps)) refl
adds place s (part.Info x) ps = rw (chosen_more s.schi x (schis ps)) refl
adds place s part.Other ps = refl

pub sinf_gathers : (place : ℕ) → Gathers (sinf_reader place)
sinf_gathers place = record { knows = knows; adds = adds place }

pub sinf_starts : (b : Found) → left (sinf_reader b.place) (record { schm = None; schi = None }) (inside b) ≡ sinf_at b
unfolding left sinf_at
sinf_starts b = refl

pub sinf_ends : (place : ℕ) (s : SinfParts) (w : Walked) (total : Result Sinf ProtFault) → w ≡ record { boxes = []; fault = None } → left (sinf_reader place) s w ≡ total → total ≡ sinf_of place s.schm s.schi
sinf_ends place s w total e so_far = ends (sinf_reader place) s w total e so_far ∙ rw (chosen_none s.schm, chosen_none s.schi) refl

definite : {A : Type 0} (x y : A) → ⊥ ⊎ (x ≡ y) → x ≡ y
definite x y (inl never) = absurd never
definite x y (inr e) = e

pub broken_part : (place : ℕ) (s : SinfParts) (b : Found) (old new : Walked) (total : Result Sinf ProtFault) (f : ProtFault) → old ≡ before b new → part_at (known s) b ≡ Err f → left (sinf_reader place) s old ≡ total → total ≡ Err f
broken_part place s b old new total f e h so_far = definite total (Err f) (stops (sinf_reader place) (sinf_gathers place) ⊥ s b old new total f e (inr h) so_far)
