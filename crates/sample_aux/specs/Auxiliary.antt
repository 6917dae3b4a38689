-- The IVs and subsamples of samples: sample auxiliary information (ISO/IEC 23001-7 section 7, ISO/IEC 14496-12 sections 8.7.8 and 8.7.9).
use Rattle.std.specs.Prelude.{ℕ, suc, zero, ◌+◌, ℤ, pos, ◌+ℤ◌, unsigned_abs, nat_lt, ◌==◌, not, Bool, true, ◌||◌, List, [], ◌∷◌, ◌++◌, length, map, slice_get, unwrap_or, bytes_eq, Option, Some, None, Result, Ok, Err, if◌then◌else◌}
use Rattle.eme_types.specs.declared.sample.Scheme.{Scheme}
use Rattle.iso_boxes.specs.Walk.{Found}
use Rattle.iso_boxes.specs.Children.{◌>>=◌, required, placed}
use Rattle.prot_boxes.specs.Answers.{fault_at as prot_fault_at}
use Rattle.prot_boxes.specs.Sinf.{scheme_code}
use Rattle.prot_boxes.specs.Senc.{senc_at, item}
use Rattle.prot_boxes.specs.Saiz.{saiz_at}
use Rattle.prot_boxes.specs.Saio.{saio_at}
use Rattle.prot_boxes.specs.declared.fault.ProtKind.{ProtKind}
use Rattle.prot_boxes.specs.declared.senc.SencItem.{SencItem}
use Rattle.prot_boxes.specs.declared.saiz.Saiz.{Saiz}
use Rattle.prot_boxes.specs.declared.sinf.Sinf.{Sinf}
use Rattle.frag_boxes.specs.declared.records.Trun.{Trun}
use Rattle.frag_boxes.specs.declared.records.Traf.{Traf}
use Rattle.sample_aux.specs.declared.fault.AuxKind.TheVariants.{CountDiffers, AuxSize, OffsetPastEnd, NoAux}
use Rattle.sample_aux.specs.declared.fault.AuxFault.{AuxFault}
use Rattle.sample_aux.specs.declared.groups.SampleProtection.{SampleProtection}
use Rattle.sample_aux.specs.declared.auxiliary.Auxiliary.{Auxiliary}
use Rattle.sample_aux.specs.declared.auxiliary.UsedSaiz.{UsedSaiz}
use Rattle.sample_aux.specs.declared.auxiliary.UsedSaio.{UsedSaio}
use Rattle.sample_aux.specs.declared.sample_data.DataRange.{DataRange}
use Rattle.sample_aux.specs.Faults.{fault_at, told}
use Rattle.sample_aux.specs.Spans.{part_of, boxes_at, first_given}
use Rattle.sample_aux.specs.InOrder.{each_number}
use Rattle.sample_aux.specs.Laying.{is_outside}
use Rattle.sample_aux.specs.Counting.{count_fields}

-- ---- senc

-- the bytes of a sample's IV: none where it is not protected
abbrev pub iv_size_of : Option SampleProtection → ℕ
iv_size_of None = 0
iv_size_of (Some r) = r.group.iv_size

-- what a senc says of each sample
unfoldable pub by_senc : List (Option SampleProtection) → Found → Result Auxiliary AuxFault
by_senc rules b = told (senc_at (map iv_size_of rules) b) >>= λ senc. Ok (record { senc = Some b.place; items = senc.items })

-- nothing is read where the count is 0
abbrev pub unless_zero : ℕ → Result Auxiliary AuxFault → Result (Option Auxiliary) AuxFault
unless_zero count read = if count == 0 then Ok None else (read >>= λ x. Ok (Some x))

-- a senc whose count is 0 counts as absent
unfoldable pub senc_of : List (Option SampleProtection) → Found → Result (Option Auxiliary) AuxFault
senc_of rules b = told (placed (prot_fault_at b.place) (count_fields b.body)) >>= λ count. unless_zero count (by_senc rules b)

-- ---- saiz and saio: the used boxes

-- a box of auxiliary data without a type, or with that of the scheme
abbrev pub is_of : Scheme → Option (List ℕ) → Bool
is_of scheme None = true
is_of scheme (Some kind) = bytes_eq kind (scheme_code scheme)

-- a saiz of the scheme, and its place
unfoldable pub saiz_of : Scheme → Found → Result (Option UsedSaiz) AuxFault
saiz_of scheme b = told (saiz_at b) >>= λ s. Ok (if is_of scheme s.kind then Some (record { place = b.place; saiz = s }) else None)

-- a saio of the scheme, and its place
unfoldable pub saio_of : Scheme → Found → Result (Option UsedSaio) AuxFault
saio_of scheme b = told (saio_at b) >>= λ s. Ok (if is_of scheme s.kind then Some (record { place = b.place; saio = s }) else None)

-- a saiz counts no more than the samples
abbrev pub few_sizes : ℕ → UsedSaiz → Result UsedSaiz AuxFault
few_sizes n u = if nat_lt n u.saiz.count then Err (fault_at u.place CountDiffers) else Ok u

-- a saio has one offset, or one for each run
abbrev pub suits_runs : ℕ → UsedSaio → Result UsedSaio AuxFault
suits_runs runs u = if (length u.saio.offsets == 1) || (length u.saio.offsets == runs) then Ok u else Err (fault_at u.place CountDiffers)

-- the used saiz: the first of the scheme
unfoldable pub used_saiz : List ℕ → Scheme → Traf → ℕ → Result UsedSaiz AuxFault
used_saiz file scheme traf n = do
  first ← first_given (saiz_of scheme) (boxes_at file traf.saiz)
  used ← required (fault_at traf.place NoAux) first
  few_sizes n used

-- the used saio: the first of the scheme
unfoldable pub used_saio : List ℕ → Scheme → Traf → Result UsedSaio AuxFault
used_saio file scheme traf = do
  first ← first_given (saio_of scheme) (boxes_at file traf.saio)
  used ← required (fault_at traf.place NoAux) first
  suits_runs (length traf.runs) used

-- ---- saiz and saio: where the data of each sample stands

-- the size of a sample's data: 0 past the count, whatever the default is
abbrev pub size_at : Saiz → ℕ → ℕ
size_at s k =
    if nat_lt k s.count then (if s.default_size == 0 then unwrap_or (slice_get s.sizes k) 0 else s.default_size)
    else 0

-- the data of n samples from sample k on follow each other from a place
unfoldable pub follow : Saiz → ℤ → ℕ → ℕ → List DataRange
follow s at k zero = []
follow s at k (suc n) = record { at = at; size = size_at s k } ∷ follow s (at +ℤ pos (size_at s k)) (k + 1) n

-- the offset of a run
abbrev pub offset_of : List ℕ → ℕ → ℕ
offset_of offsets i = unwrap_or (slice_get offsets i) 0

-- each run has its own offset: run i, which begins with sample k, and on
unfoldable pub by_run : Saiz → ℤ → List ℕ → ℕ → ℕ → List Trun → List DataRange
by_run s base offsets i k [] = []
by_run s base offsets i k (run ∷ runs) = follow s (base +ℤ pos (offset_of offsets i)) k run.count ++ by_run s base offsets (i + 1) (k + run.count) runs

-- with one offset the data of all n samples follow each other; offsets count from the base
abbrev pub data_ranges : Saiz → ℤ → List ℕ → List Trun → ℕ → List DataRange
data_ranges s base offsets runs n =
    if length offsets == 1 then follow s (base +ℤ pos (offset_of offsets 0)) 0 n else by_run s base offsets 0 0 runs

-- ---- saiz and saio: the data of a sample

-- all of the bytes are read
abbrev pub exactly : AuxFault → Result (SencItem × List ℕ) ProtKind → Result SencItem AuxFault
exactly e (Ok x) = if length x.1 == 0 then Ok x.0 else Err e
exactly e (Err k) = Err e

-- the IV alone, or followed by the count of its subsamples and as many pairs
abbrev pub data_of : AuxFault → ℕ → List ℕ → Result SencItem AuxFault
data_of e iv_size bytes = exactly e (item (not (length bytes == iv_size)) iv_size bytes)

-- what auxiliary data says of a sample of which it says nothing
abbrev pub nothing : SencItem
nothing = record { iv = None; subs = [] }

-- the place is tested, then the size; of a sample that is not protected neither is
unfoldable pub data_at : List ℕ → ℕ → ℕ → Option SampleProtection → DataRange → Result SencItem AuxFault
data_at file sizes offsets None range = Ok nothing
data_at file sizes offsets (Some r) range =
    if is_outside (length file) range.at range.size then Err (fault_at offsets OffsetPastEnd)
    else data_of (fault_at sizes AuxSize) r.group.iv_size (part_of file (unsigned_abs range.at) range.size)

-- what protects sample k
abbrev pub rule_of : List (Option SampleProtection) → ℕ → Option SampleProtection
rule_of rules k = unwrap_or (slice_get rules k) None

-- where the data of sample k stands
abbrev pub range_of : List DataRange → ℕ → DataRange
range_of ranges k = unwrap_or (slice_get ranges k) (record { at = pos 0; size = 0 })

-- what the data of each sample says
unfoldable pub by_ranges : List ℕ → ℕ → ℕ → List (Option SampleProtection) → List DataRange → Result (List SencItem) AuxFault
by_ranges file sizes offsets rules ranges = each_number (λ k. data_at file sizes offsets (rule_of rules k) (range_of ranges k)) (length rules)

-- the same, found by the used saiz and the used saio
unfoldable pub by_sizes : List ℕ → Scheme → Traf → ℤ → List (Option SampleProtection) → Result Auxiliary AuxFault
by_sizes file scheme traf base rules = do
  sizes ← used_saiz file scheme traf (length rules)
  offsets ← used_saio file scheme traf
  items ← by_ranges file sizes.place offsets.place rules (data_ranges sizes.saiz base offsets.saio.offsets traf.runs (length rules))
  Ok (record { senc = None; items = items })

-- ---- which of them

-- without auxiliary data
abbrev pub no_data : Auxiliary
no_data = record { senc = None; items = [] }

-- what the used senc says, else saiz and saio, where the track fragment has a saiz
abbrev pub by_used : List ℕ → Sinf → Traf → ℤ → List (Option SampleProtection) → Option Auxiliary → Result Auxiliary AuxFault
by_used file entry traf base rules (Some auxiliary) = Ok auxiliary
by_used file entry traf base rules None = if length traf.saiz == 0 then Ok no_data else by_sizes file entry.scheme traf base rules

-- the first senc whose count is not 0, else saiz and saio, else nothing; on a clear sample entry none of it is looked at
unfoldable pub auxiliary_of : List ℕ → Option Sinf → Traf → ℤ → List (Option SampleProtection) → Result Auxiliary AuxFault
auxiliary_of file None traf base rules = Ok no_data
auxiliary_of file (Some entry) traf base rules = first_given (senc_of rules) (boxes_at file traf.senc) >>= by_used file entry traf base rules
