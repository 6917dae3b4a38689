-- The type of auxiliary data, which saiz and saio may begin with (ISO/IEC 14496-12 sections 8.7.8 and 8.7.9).
use Rattle.std.specs.Prelude.{◌≡◌, ℕ, List, [], ◌∷◌, ◌++◌, length, Option, Some, None, IfSome, is_some, if◌then◌else◌}
use Rattle.std.specs.Int.{w32}
use Rattle.iso_boxes.specs.Reading.{Reading, ◌>>=◌, yield, number, some_bytes, given, has}
use Rattle.prot_boxes.specs.declared.fault.ProtKind.{ProtKind}
use Rattle.prot_boxes.specs.declared.fault.ProtKind.TheVariants.{Short}

-- the type; its parameter is passed over
unfoldable pub aux_type : Reading ProtKind (List ℕ)
aux_type = do
  kind ← some_bytes Short 4
  parameter ← number Short w32
  yield kind

-- it stands where flag 1 is set
abbrev pub aux_type_if : ℕ → Reading ProtKind (Option (List ℕ))
aux_type_if flags = given (has 0x1 flags) aux_type

-- ---- writing

-- the flags that say whether a type is written
abbrev pub aux_flags : Option (List ℕ) → ℕ
aux_flags kind = if is_some kind then 1 else 0

-- a type with the parameter 0, where there is one
abbrev pub aux_body : Option (List ℕ) → List ℕ
aux_body None = []
aux_body (Some kind) = kind ++ (0 ∷ 0 ∷ 0 ∷ 0 ∷ [])

-- a type has 4 bytes
abbrev pub IsAuxType : Option (List ℕ) → Type 0
IsAuxType kind = IfSome kind (λ k. length k ≡ 4)
