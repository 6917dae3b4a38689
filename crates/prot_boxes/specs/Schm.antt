-- The scheme type box, schm (ISO/IEC 14496-12 section 8.12.5).
use Rattle.std.specs.Prelude.{◌≡◌, ℕ, ◌<◌, ◌^◌, length, List, [], ◌∷◌, ◌++◌, Result}
use Rattle.std.specs.Int.{w8, w32, to_be_bytes}
use Rattle.iso_boxes.specs.Reading.{Reading, ◌>>=◌, yield, number, number24, some_bytes}
use Rattle.iso_boxes.specs.Walk.{Found}
use Rattle.iso_boxes.specs.Children.{placed}
use Rattle.prot_boxes.specs.Answers.{fault_at}
use Rattle.prot_boxes.specs.declared.fault.ProtFault.{ProtFault}
use Rattle.prot_boxes.specs.declared.fault.ProtKind.{ProtKind}
use Rattle.prot_boxes.specs.declared.fault.ProtKind.TheVariants.{Short}
use Rattle.prot_boxes.specs.declared.schm.Schm.{Schm}

-- the scheme's type and version
unfoldable pub schm_fields : Reading ProtKind Schm
schm_fields = do
  version ← number Short w8
  flags ← number24 Short
  kind ← some_bytes Short 4
  scheme_version ← number Short w32
  yield (record { kind = kind; version = scheme_version })

-- a schm
abbrev pub schm_at : Found → Result Schm ProtFault
schm_at b = placed (fault_at b.place) (schm_fields b.body)

-- ---- writing

-- version 0 and no flag
unfoldable pub schm_body : Schm → List ℕ
schm_body s = 0 ∷ 0 ∷ 0 ∷ 0 ∷ [] ++ s.kind ++ to_be_bytes w32 s.version

-- each field fits its width
pub record IsCanonical (s : Schm) : Type 0 where
  pub kind : length s.kind ≡ 4
  pub version : s.version < 2 ^ 32
