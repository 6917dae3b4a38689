-- A movie fragment, moof (ISO/IEC 14496-12 section 8.8.4): its boxes in file order, each whole; a rule on a missing box at its end.
use Rattle.std.specs.Prelude.{◌≡◌, ℕ, Bool, true, false, List, [], ◌∷◌, ◌++◌, length, Result, Ok, codes, bytes_eq, if◌then◌else◌}
use Rattle.iso_boxes.specs.declared.walk.BoxFault.{BoxFault}
use Rattle.eme_types.specs.FirstFault as first_fault
use Rattle.iso_boxes.specs.Walk.{Found, inside}
use Rattle.iso_boxes.specs.Children.{◌>>=◌, all_read, all_knowing, broken_header, required, first, placed}
use Rattle.frag_boxes.specs.declared.fault.FragKind.{FragKind}
use Rattle.frag_boxes.specs.declared.fault.FragKind.TheVariants.{Short, SizeTooSmall, PastEnd, NoTfhd, OutOfMemory}
use Rattle.frag_boxes.specs.declared.fault.FragFault.{FragFault}
use Rattle.frag_boxes.specs.declared.kinds.TrafBox.{TrafBox}
use Rattle.frag_boxes.specs.declared.kinds.TrafBox.TheVariants as traf
use Rattle.frag_boxes.specs.declared.kinds.MoofBox.{MoofBox}
use Rattle.frag_boxes.specs.declared.kinds.MoofBox.TheVariants as moof
use Rattle.frag_boxes.specs.declared.records.Span.{Span}
use Rattle.frag_boxes.specs.declared.records.Tfhd.{Tfhd}
use Rattle.frag_boxes.specs.declared.records.Trun.{Trun}
use Rattle.frag_boxes.specs.declared.records.Traf.{Traf}
use Rattle.frag_boxes.specs.declared.records.Moof.{Moof}
use Rattle.frag_boxes.specs.declared.moof.TrafPart.{TrafPart}
use Rattle.frag_boxes.specs.declared.moof.TrafPart.TheVariants as part
use Rattle.frag_boxes.specs.declared.moof.MoofPart.{MoofPart}
use Rattle.frag_boxes.specs.declared.moof.MoofPart.TheVariants as moof_part
use Rattle.frag_boxes.specs.Fields.{tfhd_fields, trun_fields}

-- what a reader returned is what the definition reads, unless memory ran out
abbrev pub GivesBox : {X : Type 0} → Result X FragFault → Result X FragFault → Type 0
GivesBox result read = first_fault.Gives (λ e. e.kind ≡ OutOfMemory) (λ x. x) result read

-- a broken rule at a place
abbrev pub fault_at : ℕ → FragKind → FragFault
fault_at place kind = record { place = place; kind = kind }

-- a broken header inside a box
abbrev pub header_fault : BoxFault → FragFault
header_fault f = broken_header fault_at Short SizeTooSmall PastEnd f

-- where a box stands
abbrev pub span : Found → Span
span b = record { place = b.place; body_place = b.body_place; len = length b.body }

-- ---- a track fragment, traf (section 8.8.6)

-- the types of boxes that are read here
unfoldable pub traf_box : List ℕ → TrafBox
traf_box kind =
    if bytes_eq kind (codes "tfhd") then traf.Tfhd
    else if bytes_eq kind (codes "trun") then traf.Trun
    else traf.Other

-- what is read of one box; of several tfhd the first is read, and the others are passed over
abbrev pub part_as : TrafBox → Bool → Found → Result TrafPart FragFault
part_as traf.Tfhd seen b = if seen then Ok part.Other else (placed (fault_at b.place) (tfhd_fields b.place b.body) >>= λ h. Ok (part.Head h))
part_as traf.Trun seen b = placed (fault_at b.place) (trun_fields b.place b.body) >>= λ r. Ok (part.Run r)
part_as traf.Other seen b = Ok (part.Placed b.kind (span b))

-- what is read of one box by its type
abbrev pub part_at : Bool → Found → Result TrafPart FragFault
part_at seen b = part_as (traf_box b.kind) seen b

-- a tfhd is among what was read
abbrev pub head_seen : Bool → TrafPart → Bool
head_seen seen (part.Head h) = true
head_seen seen _ = seen

-- its tfhd
abbrev pub heads : List TrafPart → List Tfhd
heads [] = []
heads (part.Head h ∷ ps) = h ∷ heads ps
heads (_ ∷ ps) = heads ps

-- its runs
abbrev pub runs : List TrafPart → List Trun
runs [] = []
runs (part.Run r ∷ ps) = r ∷ runs ps
runs (_ ∷ ps) = runs ps

-- a box, where it has this type
abbrev pub span_if : List ℕ → List ℕ → Span → List Span
span_if kind k x = if bytes_eq k kind then x ∷ [] else []

-- its boxes of a type
abbrev pub spans_of : List ℕ → List TrafPart → List Span
spans_of kind [] = []
spans_of kind (part.Placed k x ∷ ps) = span_if kind k x ++ spans_of kind ps
spans_of kind (_ ∷ ps) = spans_of kind ps

-- its boxes of each type, in file order
abbrev pub traf_from : ℕ → List TrafPart → Result Traf FragFault
traf_from place ps = do
  tfhd ← required (fault_at place NoTfhd) (first (heads ps))
  Ok (record { place = place; tfhd = tfhd; runs = runs ps; senc = spans_of (codes "senc") ps; saiz = spans_of (codes "saiz") ps; saio = spans_of (codes "saio") ps; sgpd = spans_of (codes "sgpd") ps; sbgp = spans_of (codes "sbgp") ps })

-- a track fragment: it has a tfhd
unfoldable pub traf_at : Found → Result Traf FragFault
traf_at b = all_knowing header_fault part_at head_seen false (inside b) >>= traf_from b.place

-- ---- a movie fragment

-- the types of boxes that are read here
unfoldable pub moof_box : List ℕ → MoofBox
moof_box kind =
    if bytes_eq kind (codes "traf") then moof.Traf
    else if bytes_eq kind (codes "pssh") then moof.Pssh
    else moof.Other

-- what is read of one box
abbrev pub moof_part_as : MoofBox → Found → Result MoofPart FragFault
moof_part_as moof.Traf b = traf_at b >>= λ t. Ok (moof_part.Fragment t)
moof_part_as moof.Pssh b = Ok (moof_part.Pssh (span b))
moof_part_as moof.Other b = Ok moof_part.Other

-- what is read of one box by its type
abbrev pub moof_part_at : Found → Result MoofPart FragFault
moof_part_at b = moof_part_as (moof_box b.kind) b

-- its track fragments
abbrev pub trafs : List MoofPart → List Traf
trafs [] = []
trafs (moof_part.Fragment t ∷ ps) = t ∷ trafs ps
trafs (_ ∷ ps) = trafs ps

-- its initialization data
abbrev pub psshs : List MoofPart → List Span
psshs [] = []
psshs (moof_part.Pssh x ∷ ps) = x ∷ psshs ps
psshs (_ ∷ ps) = psshs ps

-- a movie fragment
unfoldable pub moof_at : Found → Result Moof FragFault
moof_at b = do
  parts ← all_read header_fault moof_part_at (inside b)
  Ok (record { place = b.place; trafs = trafs parts; psshs = psshs parts })
