-- What the sample table of a track says, on the path mdia, minf, stbl (ISO/IEC 14496-12 sections 8.5 to 8.9).
use Rattle.std.specs.Prelude.{◌≡◌, ℕ, ◌+◌, Bool, true, false, List, [], ◌∷◌, length, take, drop, nat_lt, Option, Some, None, Result, Ok, Err, codes, bytes_eq, ◌==◌, if◌then◌else◌}
use Rattle.iso_boxes.specs.declared.walk.BoxFault.{BoxFault}
use Rattle.iso_boxes.specs.Walk.{Found, Left, Walked, inside, walk, boxes_left}
use Rattle.iso_boxes.specs.Children.{◌>>=◌, all_read, all_knowing, each_knowing, first_read, first, placed}
use Rattle.frag_boxes.specs.declared.fault.FragKind.TheVariants.{Short, EntryType, NoSinf}
use Rattle.frag_boxes.specs.declared.fault.FragFault.{FragFault}
use Rattle.frag_boxes.specs.declared.records.Span.{Span}
use Rattle.frag_boxes.specs.declared.records.SampleEntry.{SampleEntry}
use Rattle.frag_boxes.specs.declared.table.Table.{Table}
use Rattle.frag_boxes.specs.declared.table.EntryBox.{EntryBox}
use Rattle.frag_boxes.specs.declared.table.EntryBox.TheVariants as entry
use Rattle.frag_boxes.specs.declared.table.StblBox.{StblBox}
use Rattle.frag_boxes.specs.declared.table.StblBox.TheVariants as stbl
use Rattle.frag_boxes.specs.declared.table.StblPart.{StblPart}
use Rattle.frag_boxes.specs.declared.table.StblPart.TheVariants as part
use Rattle.frag_boxes.specs.Fields.{stsd_fields, stsz_fields, audio_version}
use Rattle.frag_boxes.specs.Moof.{fault_at, header_fault, span}

-- a box is of this type
abbrev pub is : List ℕ → Found → Bool
is kind b = bytes_eq b.kind kind

-- the boxes behind n bytes of fields
abbrev pub behind : ℕ → Found → Result Walked FragFault
behind n b = if nat_lt (length b.body) n then Err (fault_at b.place Short) else Ok (walk (drop n b.body) (b.body_place + n) false)

-- what a reader returned are the boxes of the definition
abbrev pub GivesBoxes : Result Left FragFault → Result Walked FragFault → Type 0
GivesBoxes (Ok left) walked = walked ≡ Ok (boxes_left left)
GivesBoxes (Err e) walked = walked ≡ Err e

-- those that are there
abbrev pub somes : {A : Type 0} → List (Option A) → List A
somes [] = []
somes (None ∷ xs) = somes xs
somes (Some x ∷ xs) = x ∷ somes xs

-- ---- sample entries (section 8.5.2)

-- encv and enca are protected; no other type may begin with enc
unfoldable pub entry_box : List ℕ → EntryBox
entry_box kind =
    if bytes_eq kind (codes "encv") then entry.Encv
    else if bytes_eq kind (codes "enca") then entry.Enca
    else if bytes_eq (take 3 kind) (codes "enc") then entry.OtherEnc
    else entry.Clear

-- where a sinf stands; other boxes are passed over
unfoldable pub sinf_part : Found → Option Span
sinf_part b = if is (codes "sinf") b then Some (span b) else None

-- a protected entry has a sinf
abbrev pub entry_from : ℕ → List Span → Result SampleEntry FragFault
entry_from place sinfs = if length sinfs == 0 then Err (fault_at place NoSinf) else Ok (record { place = place; sinfs = sinfs })

-- the sinf boxes among the boxes of an entry
abbrev pub sinfs_at : ℕ → Walked → Result SampleEntry FragFault
sinfs_at place w = all_read header_fault (λ b. Ok (sinf_part b)) w >>= λ parts. entry_from place (somes parts)

-- a protected entry with n bytes of fields: 78 in a visual entry (section 12.1.3), 28 in an audio entry (section 12.2.3)
unfoldable pub protected_at : ℕ → Found → Result SampleEntry FragFault
protected_at n b = behind n b >>= sinfs_at b.place

-- an entry by its type; an audio entry has version 0
abbrev pub entry_as : EntryBox → Found → Result SampleEntry FragFault
entry_as entry.Encv b = protected_at 78 b
entry_as entry.Enca b = placed (fault_at b.place) (audio_version b.body) >>= λ version. protected_at 28 b
entry_as entry.OtherEnc b = Err (fault_at b.place EntryType)
entry_as entry.Clear b = Ok (record { place = b.place; sinfs = [] })

-- an entry
abbrev pub entry_at : Found → Result SampleEntry FragFault
entry_at b = entry_as (entry_box b.kind) b

-- fewer boxes than were counted: the header that is broken there, or the count is too high
abbrev pub too_few : ℕ → Option BoxFault → FragFault
too_few place None = fault_at place Short
too_few place (Some f) = header_fault f

-- there are as many boxes as were counted
abbrev pub enough : ℕ → ℕ → Walked → Result (Unit {0}) FragFault
enough place count w = if nat_lt (length w.boxes) count then Err (too_few place w.fault) else Ok tt

-- as many entries as were counted; what stands behind them is not looked at
unfoldable pub entries_in : ℕ → ℕ → Walked → Result (List SampleEntry) FragFault
entries_in place count w = do
  entries ← each_knowing (λ (none : Unit {0}) b. entry_at b) (λ none x. tt) tt (take count w.boxes)
  end ← enough place count w
  Ok entries

-- the counted entries, behind 8 bytes of fields
unfoldable pub entries_at : ℕ → Found → Result (List SampleEntry) FragFault
entries_at count b = behind 8 b >>= entries_in b.place count

-- the entries of an stsd
unfoldable pub stsd_at : Found → Result (List SampleEntry) FragFault
stsd_at b = placed (fault_at b.place) (stsd_fields b.body) >>= λ count. entries_at count b

-- ---- the table

-- the types of boxes that are read here
unfoldable pub stbl_box : List ℕ → StblBox
stbl_box kind =
    if bytes_eq kind (codes "stsd") then stbl.Stsd
    else if bytes_eq kind (codes "stsz") then stbl.Stsz
    else if bytes_eq kind (codes "sgpd") then stbl.Sgpd
    else stbl.Other

-- of several stsd the first is read; each stsz has to have no sample
abbrev pub stbl_part_as : StblBox → Bool → Found → Result StblPart FragFault
stbl_part_as stbl.Stsd seen b = if seen then Ok part.Other else (stsd_at b >>= λ entries. Ok (part.Entries entries))
stbl_part_as stbl.Stsz seen b = placed (fault_at b.place) (stsz_fields b.body) >>= λ count. Ok part.Other
stbl_part_as stbl.Sgpd seen b = Ok (part.Group (span b))
stbl_part_as stbl.Other seen b = Ok part.Other

-- what is read of one box by its type
abbrev pub stbl_part_at : Bool → Found → Result StblPart FragFault
stbl_part_at seen b = stbl_part_as (stbl_box b.kind) seen b

-- an stsd is among what was read
abbrev pub stsd_seen : Bool → StblPart → Bool
stsd_seen seen (part.Entries entries) = true
stsd_seen seen _ = seen

-- the entries of each stsd that was read
abbrev pub entries_of : List StblPart → List (List SampleEntry)
entries_of [] = []
entries_of (part.Entries entries ∷ ps) = entries ∷ entries_of ps
entries_of (_ ∷ ps) = entries_of ps

-- where its sgpd stand
abbrev pub groups : List StblPart → List Span
groups [] = []
groups (part.Group x ∷ ps) = x ∷ groups ps
groups (_ ∷ ps) = groups ps

-- no item where there is no list
abbrev pub or_nothing : {A : Type 0} → Option (List A) → List A
or_nothing None = []
or_nothing (Some xs) = xs

-- a sample table
unfoldable pub stbl_at : Found → Result Table FragFault
stbl_at b = do
  parts ← all_knowing header_fault stbl_part_at stsd_seen false (inside b)
  Ok (record { entries = or_nothing (first (entries_of parts)); groups = groups parts })

-- a table without entries and groups
abbrev pub no_table : Table
no_table = record { entries = []; groups = [] }

-- an empty table where there is none
abbrev pub or_none : Option Table → Table
or_none None = no_table
or_none (Some table) = table

-- the table in the first stbl of a minf
unfoldable pub minf_at : Found → Result Table FragFault
minf_at b = first_read header_fault (is (codes "stbl")) stbl_at (inside b) >>= λ table. Ok (or_none table)

-- the table in the first minf of an mdia
unfoldable pub mdia_at : Found → Result Table FragFault
mdia_at b = first_read header_fault (is (codes "minf")) minf_at (inside b) >>= λ table. Ok (or_none table)
