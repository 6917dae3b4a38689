-- What protects each group, sgpd (ISO/IEC 14496-12 section 8.9.3) with seig entries (ISO/IEC 23001-7 section 6).
use Rattle.std.specs.Prelude.{ℕ, ◌<◌, ◌%◌, ◌^◌, List, ◌∷◌, ◌++◌, length, codes, bytes_eq, nat_lt, Option, Some, None, Result, ◌==◌, if◌then◌else◌}
use Rattle.std.specs.List.{All, flat_map}
use Rattle.std.specs.Int.{w8, w32, to_be_bytes}
use Rattle.iso_boxes.specs.Reading.{Reading, ◌>>=◌, yield, broken, number, number24, some_bytes, given, within, repeated}
use Rattle.iso_boxes.specs.Walk.{Found}
use Rattle.iso_boxes.specs.Children.{placed}
use Rattle.eme_types.specs.declared.sample.Iv.{Iv}
use Rattle.eme_types.specs.declared.sample.Iv.TheVariants.{Eight, Sixteen}
use Rattle.prot_boxes.specs.Answers.{fault_at}
use Rattle.prot_boxes.specs.Seig.{seig_fields, seig_body, IsCanonical as SuitsSeig}
use Rattle.prot_boxes.specs.declared.fault.ProtFault.{ProtFault}
use Rattle.prot_boxes.specs.declared.fault.ProtKind.{ProtKind}
use Rattle.prot_boxes.specs.declared.fault.ProtKind.TheVariants.{Short, Version}
use Rattle.prot_boxes.specs.declared.seig.Seig.{Seig}
use Rattle.prot_boxes.specs.declared.sgpd.Sgpd.{Sgpd}

-- a number of 32 bits
abbrev pub u32 : Reading ProtKind ℕ
u32 = number Short w32

-- an entry stands in a part of the stated length
unfoldable pub entry_within : ℕ → Reading ProtKind Seig
entry_within size = within Short size seig_fields

-- a length of its own stands before an entry
unfoldable pub entry_with_length : Reading ProtKind Seig
entry_with_length = u32 >>= λ size. entry_within size

-- the default length is none in version 0, where an entry ends with its fields, and 0 where each has its own
abbrev pub entry : Option ℕ → Reading ProtKind Seig
entry None = seig_fields
entry (Some default) = if default == 0 then entry_with_length else entry_within default

-- the counted entries of version 0 or 1
unfoldable pub entries : ℕ → Reading ProtKind Sgpd
entries version =
    if nat_lt 1 version then broken Version
    else (
    given (version == 1) u32 >>= λ default.
    u32 >>= λ count.
    repeated count (entry default) >>= λ entries. yield (record { entries = entries })
    )

-- groups of another type than seig are not read, whatever their version
unfoldable pub sgpd_fields : Reading ProtKind (Option Sgpd)
sgpd_fields = do
  version ← number Short w8
  flags ← number24 Short
  kind ← some_bytes Short 4
  given (bytes_eq kind (codes "seig")) (entries version)

-- an sgpd; none where it groups by another type
abbrev pub sgpd_at : Found → Result (Option Sgpd) ProtFault
sgpd_at b = placed (fault_at b.place) (sgpd_fields b.body)

-- ---- writing

-- the bytes of an entry with this constant IV
abbrev pub entry_length : Option Iv → ℕ
entry_length None = 20
entry_length (Some (Eight iv)) = 29
entry_length (Some (Sixteen iv)) = 37

-- an entry behind its length
abbrev pub entry_body : Seig → List ℕ
entry_body s = to_be_bytes w32 (entry_length s.constant) ++ seig_body s

-- version 1, default length 0 and a length per entry
unfoldable pub sgpd_body : Sgpd → List ℕ
sgpd_body s = 1 ∷ 0 ∷ 0 ∷ 0 ∷ (codes "seig" ++ (to_be_bytes w32 0 ++ (to_be_bytes w32 (length s.entries % 2 ^ 32) ++ flat_map entry_body s.entries)))

-- a record that these fields can say
pub record IsCanonical (s : Sgpd) : Type 0 where
  pub count : length s.entries < 2 ^ 32
  pub entries : All SuitsSeig s.entries
