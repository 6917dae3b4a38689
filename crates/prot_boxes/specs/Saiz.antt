-- The sizes of samples' auxiliary data, saiz (ISO/IEC 14496-12 section 8.7.8).
use Rattle.std.specs.Prelude.{◌≡◌, ◌⊎◌, ℕ, ◌<◌, ◌^◌, List, [], ◌∷◌, ◌++◌, length, false, Result, ◌==◌, if◌then◌else◌}
use Rattle.std.specs.Int.{w8, w32, to_be_bytes}
use Rattle.iso_boxes.specs.Reading.{Reading, ◌>>=◌, yield, number, number24, some_bytes}
use Rattle.iso_boxes.specs.Walk.{Found}
use Rattle.iso_boxes.specs.Children.{placed}
use Rattle.prot_boxes.specs.Answers.{fault_at}
use Rattle.prot_boxes.specs.AuxType.{aux_type_if, aux_flags, aux_body, IsAuxType}
use Rattle.prot_boxes.specs.declared.fault.ProtFault.{ProtFault}
use Rattle.prot_boxes.specs.declared.fault.ProtKind.{ProtKind}
use Rattle.prot_boxes.specs.declared.fault.ProtKind.TheVariants.{Short}
use Rattle.prot_boxes.specs.declared.saiz.Saiz.{Saiz}

-- where there is no default size, each counted sample has one of its own
abbrev pub sizes_if : ℕ → ℕ → Reading ProtKind (List ℕ)
sizes_if default count = if default == 0 then some_bytes Short count else yield []

-- a default size, or the size of each counted sample
unfoldable pub saiz_fields : Reading ProtKind Saiz
saiz_fields = do
  version ← number Short w8
  flags ← number24 Short
  kind ← aux_type_if flags
  default ← number Short w8
  count ← number Short w32
  sizes ← sizes_if default count
  yield (record { kind = kind; default_size = default; count = count; sizes = sizes })

-- a saiz
abbrev pub saiz_at : Found → Result Saiz ProtFault
saiz_at b = placed (fault_at b.place) (saiz_fields b.body)

-- ---- writing

-- version 0
unfoldable pub saiz_body : Saiz → List ℕ
saiz_body s = 0 ∷ 0 ∷ 0 ∷ aux_flags s.kind ∷ (aux_body s.kind ++ (s.default_size ∷ (to_be_bytes w32 s.count ++ s.sizes)))

-- there are as many sizes as counted samples, or a default
pub record IsCanonical (s : Saiz) : Type 0 where
  pub kind : IsAuxType s.kind
  pub count : s.count < 2 ^ 32
  pub sizes : ((s.default_size ≡ 0) × (length s.sizes ≡ s.count)) ⊎ (((s.default_size == 0) ≡ false) × (s.sizes ≡ []))
