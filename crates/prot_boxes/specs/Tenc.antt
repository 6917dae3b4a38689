-- The track encryption box, tenc (ISO/IEC 23001-7 section 8.2).
use Rattle.std.specs.Prelude.{◌≡◌, ℕ, List, ◌∷◌, Result, ◌==◌, if◌then◌else◌}
use Rattle.iso_boxes.specs.Reading.{Reading, ◌>>=◌, yield, number24}
use Rattle.iso_boxes.specs.Walk.{Found}
use Rattle.iso_boxes.specs.Children.{placed}
use Rattle.prot_boxes.specs.Answers.{fault_at}
use Rattle.prot_boxes.specs.Seig.{u8, seig_fields, seig_body, IsCanonical as SuitsSeig}
use Rattle.prot_boxes.specs.declared.fault.ProtFault.{ProtFault}
use Rattle.prot_boxes.specs.declared.fault.ProtKind.{ProtKind}
use Rattle.prot_boxes.specs.declared.fault.ProtKind.TheVariants.{Short}
use Rattle.prot_boxes.specs.declared.seig.Seig.{Seig}
use Rattle.prot_boxes.specs.declared.tenc.Tenc.{Tenc}

-- version 0 has no pattern: its bits are reserved
abbrev pub patterned : ℕ → ℕ → ℕ
patterned version blocks = if version == 0 then 0 else blocks

-- behind version and flags stand the fields of a group entry
unfoldable pub tenc_fields : Reading ProtKind Tenc
tenc_fields = do
  version ← u8
  flags ← number24 Short
  s ← seig_fields
  yield (record {
    version = version;
    crypt = patterned version s.crypt;
    skip = patterned version s.skip;
    protected = s.protected;
    iv_size = s.iv_size;
    kid = s.kid;
    constant = s.constant;
  })

-- a tenc
abbrev pub tenc_at : Found → Result Tenc ProtFault
tenc_at b = placed (fault_at b.place) (tenc_fields b.body)

-- ---- writing

-- what a tenc says of protection, as a group does
abbrev pub seig_of : Tenc → Seig
seig_of t = record {
  crypt = patterned t.version t.crypt;
  skip = patterned t.version t.skip;
  protected = t.protected;
  iv_size = t.iv_size;
  kid = t.kid;
  constant = t.constant;
}

-- the reserved bits are 0
unfoldable pub tenc_body : Tenc → List ℕ
tenc_body t = t.version ∷ 0 ∷ 0 ∷ 0 ∷ seig_body (seig_of t)

-- a record that a tenc can say: version 0 has no pattern
pub record IsCanonical (t : Tenc) : Type 0 where
  pub crypt : t.crypt ≡ patterned t.version t.crypt
  pub skip : t.skip ≡ patterned t.version t.skip
  pub fields : SuitsSeig (seig_of t)
