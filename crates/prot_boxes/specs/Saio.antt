-- Where samples' auxiliary data stands, saio (ISO/IEC 14496-12 section 8.7.9).
use Rattle.std.specs.Prelude.{ℕ, ◌<◌, ◌%◌, ◌^◌, List, ◌∷◌, ◌++◌, length, Result, ◌==◌, if◌then◌else◌}
use Rattle.std.specs.List.{All, flat_map}
use Rattle.std.specs.Int.{w8, w32, w64, to_be_bytes}
use Rattle.iso_boxes.specs.Reading.{Reading, ◌>>=◌, yield, number, number24, repeated}
use Rattle.iso_boxes.specs.Walk.{Found}
use Rattle.iso_boxes.specs.Children.{placed}
use Rattle.prot_boxes.specs.Answers.{fault_at}
use Rattle.prot_boxes.specs.AuxType.{aux_type_if, aux_flags, aux_body, IsAuxType}
use Rattle.prot_boxes.specs.declared.fault.ProtFault.{ProtFault}
use Rattle.prot_boxes.specs.declared.fault.ProtKind.{ProtKind}
use Rattle.prot_boxes.specs.declared.fault.ProtKind.TheVariants.{Short}
use Rattle.prot_boxes.specs.declared.saio.Saio.{Saio}

-- an offset has 32 bits in version 0 and 64 bits in others
abbrev pub offset : ℕ → Reading ProtKind ℕ
offset version = if version == 0 then number Short w32 else number Short w64

-- the counted offsets, of any version
unfoldable pub saio_fields : Reading ProtKind Saio
saio_fields = do
  version ← number Short w8
  flags ← number24 Short
  kind ← aux_type_if flags
  count ← number Short w32
  offsets ← repeated count (offset version)
  yield (record { kind = kind; offsets = offsets })

-- a saio
abbrev pub saio_at : Found → Result Saio ProtFault
saio_at b = placed (fault_at b.place) (saio_fields b.body)

-- ---- writing

-- an offset of 64 bits
abbrev pub offset_body : ℕ → List ℕ
offset_body n = to_be_bytes w64 n

-- version 1
unfoldable pub saio_body : Saio → List ℕ
saio_body s = 1 ∷ 0 ∷ 0 ∷ aux_flags s.kind ∷ (aux_body s.kind ++ (to_be_bytes w32 (length s.offsets % 2 ^ 32) ++ flat_map offset_body s.offsets))

-- each field fits its width
pub record IsCanonical (s : Saio) : Type 0 where
  pub kind : IsAuxType s.kind
  pub count : length s.offsets < 2 ^ 32
  pub offsets : All (λ n. n < 2 ^ 64) s.offsets
