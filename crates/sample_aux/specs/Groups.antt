-- The group of each sample, and what protects it (ISO/IEC 14496-12 section 8.9, ISO/IEC 23001-7 section 6).
use Rattle.std.specs.Prelude.{◌≡◌, ◌⊎◌, ℕ, ◌-◌, Bool, true, false, nat_lt, ◌==◌, List, [], ◌∷◌, slice_get, Option, Some, None, Result, Ok, Err, if◌then◌else◌}
use Rattle.eme_types.specs.declared.sample.Scheme.{Scheme}
use Rattle.iso_boxes.specs.Walk.{Found}
use Rattle.iso_boxes.specs.Children.{◌>>=◌, required}
use Rattle.prot_boxes.specs.Sbgp.{sbgp_at}
use Rattle.prot_boxes.specs.declared.sbgp.Sbgp.{Sbgp}
use Rattle.prot_boxes.specs.declared.sbgp.SbgpItem.{SbgpItem}
use Rattle.prot_boxes.specs.declared.seig.Seig.{Seig}
use Rattle.prot_boxes.specs.declared.sinf.Sinf.{Sinf}
use Rattle.prot_boxes.specs.declared.tenc.Tenc.{Tenc}
use Rattle.frag_boxes.specs.declared.records.Span.{Span}
use Rattle.frag_boxes.specs.declared.records.Traf.{Traf}
use Rattle.sample_aux.specs.declared.fault.AuxKind.TheVariants.{GroupIndex, OutOfMemory, Scheme as NoScheme}
use Rattle.sample_aux.specs.declared.fault.AuxKind.{AuxKind}
use Rattle.sample_aux.specs.declared.fault.AuxFault.{AuxFault}
use Rattle.sample_aux.specs.declared.groups.Grouping.{Grouping}
use Rattle.sample_aux.specs.declared.groups.SampleProtection.{SampleProtection}
use Rattle.sample_aux.specs.declared.groups.Protection.{Protection}
use Rattle.sample_aux.specs.Faults.{fault_at, told}
use Rattle.sample_aux.specs.Spans.{boxes_at, first_given}
use Rattle.sample_aux.specs.InOrder.{each_number}
use Rattle.sample_aux.specs.Checked.{groups_in}

-- ---- the index of a sample

-- counts and indices follow each other in order, and samples past them have index 0
unfoldable pub index_at : List SbgpItem → ℕ → ℕ
index_at [] k = 0
index_at (i ∷ is) k = if nat_lt k i.count then i.index else index_at is (k - i.count)

-- ---- what protects the samples of a group

-- the group of an index that is not 0: from 0x10001 on the track fragment's own, below 0x10000 that of the movie
abbrev pub group_of : List Seig → List Seig → ℕ → Option Seig
group_of own movie index =
    if nat_lt 0x10000 index then slice_get own (index - 0x10001)
    else if index == 0x10000 then None
    else slice_get movie (index - 1)

-- what a tenc says, as a group would say it
abbrev pub fields_of : Tenc → Seig
fields_of t = record { crypt = t.crypt; skip = t.skip; protected = t.protected; iv_size = t.iv_size; kid = t.kid; constant = t.constant }

-- nothing protects the samples of a group that is not protected
abbrev pub if_protected : Scheme → Seig → Option SampleProtection
if_protected scheme g = if g.protected then Some (record { scheme = scheme; group = g }) else None

-- samples of no group are protected as their sample entry says
abbrev pub entry_rule : Option Sinf → Option SampleProtection
entry_rule None = None
entry_rule (Some s) = if_protected s.scheme (fields_of s.tenc)

-- a group that is protected needs a sample entry that is not clear
abbrev pub group_rule : ℕ → Option Sinf → Seig → Result (Option SampleProtection) AuxFault
group_rule place None g = if g.protected then Err (fault_at place NoScheme) else Ok None
group_rule place (Some s) g = Ok (if_protected s.scheme g)

-- what protects a sample of this index; none where it is not protected
unfoldable pub rule_at : ℕ → Option Sinf → List Seig → List Seig → ℕ → Result (Option SampleProtection) AuxFault
rule_at place entry own movie index =
    if index == 0 then Ok (entry_rule entry)
    else (required (fault_at place GroupIndex) (group_of own movie index) >>= group_rule place entry)

-- what protects each of n samples
unfoldable pub rules_at : Grouping → Option Sinf → List Seig → List Seig → ℕ → Result (List (Option SampleProtection)) AuxFault
rules_at g entry own movie n = each_number (λ k. rule_at g.place entry own movie (index_at g.items k)) n

-- ---- the boxes of a track fragment

-- a sbgp of type seig, and its place
abbrev pub with_place : ℕ → Option Sbgp → Option Grouping
with_place place None = None
with_place place (Some s) = Some (record { place = place; items = s.entries })

-- the same, read of a box
unfoldable pub grouping_at : Found → Result (Option Grouping) AuxFault
grouping_at b = told (sbgp_at b) >>= λ s. Ok (with_place b.place s)

-- the first sbgp of type seig
unfoldable pub grouping_in : List ℕ → List Span → Result (Option Grouping) AuxFault
grouping_in file spans = first_given grouping_at (boxes_at file spans)

-- without one no sample has a group
abbrev pub or_ungrouped : Option Grouping → Grouping
or_ungrouped None = record { place = 0; items = [] }
or_ungrouped (Some g) = g

-- boxes of two kinds are read in the order in which they stand in the file: of two refusals the first one is answered
abbrev pub both : {A B : Type 0} → Result A AuxFault → Result B AuxFault → Result (A × B) AuxFault
both (Ok x) (Ok y) = Ok (x, y)
both (Ok x) (Err f) = Err f
both (Err e) (Ok y) = Err e
both (Err e) (Err f) = if nat_lt f.place e.place then Err f else Err e

-- the same of two answers, of which want of memory comes first
abbrev pub is_memory : AuxKind → Bool
is_memory OutOfMemory = true
is_memory _ = false

-- the refusal that is chosen of two
abbrev pub IsEarlier : AuxFault → AuxFault → AuxFault → Type 0
IsEarlier e f chosen = (chosen.kind ≡ OutOfMemory) ⊎ ((is_memory e.kind ≡ false) × ((is_memory f.kind ≡ false) × (chosen ≡ (if nat_lt f.place e.place then f else e))))

-- the groups of the movie, where the track fragment has groups at all
abbrev pub movie_groups : Result (List Seig) AuxFault → Option Grouping → Result (List Seig) AuxFault
movie_groups groups None = Ok []
movie_groups groups (Some g) = groups

-- what protects each of the n samples of a track fragment, and its sample entry, by what the movie says of both
unfoldable pub protection_of : List ℕ → Result (Option Sinf) AuxFault → Result (List Seig) AuxFault → Traf → ℕ → Result Protection AuxFault
protection_of file entry of_movie traf n = do
  boxes ← both (grouping_in file traf.sbgp) (groups_in file traf.sgpd)
  used ← entry
  groups ← movie_groups of_movie boxes.0
  rules ← rules_at (or_ungrouped boxes.0) used boxes.1 groups n
  Ok (record { entry = used; rules = rules })
