-- What protects a group of samples: CencSampleEncryptionInformationGroupEntry (ISO/IEC 23001-7 section 6).
use Rattle.std.specs.Prelude.{◌≡◌, ◌⊎◌, ℕ, ◌<◌, ◌+◌, ◌*◌, ◌/◌, ◌%◌, Bool, ◌&&◌, ◌||◌, List, [], ◌∷◌, ◌++◌, Option, Some, None, length, IfSome, is_some, nat_lt, ◌==◌, if◌then◌else◌}
use Rattle.std.specs.Int.{w8}
use Rattle.iso_boxes.specs.Reading.{Reading, ◌>>=◌, yield, broken, number, some_bytes, given}
use Rattle.eme_types.specs.declared.sample.Iv.{Iv}
use Rattle.eme_types.specs.declared.sample.Iv.TheVariants.{Eight, Sixteen}
use Rattle.prot_boxes.specs.declared.fault.ProtKind.{ProtKind}
use Rattle.prot_boxes.specs.declared.fault.ProtKind.TheVariants.{Short, IsProtected, IvSize}
use Rattle.prot_boxes.specs.declared.seig.Seig.{Seig}

-- a number of 8 bits
abbrev pub u8 : Reading ProtKind ℕ
u8 = number Short w8

-- isProtected is 0 or 1
unfoldable pub is_protected : Reading ProtKind Bool
is_protected = do
  flag ← u8
  if nat_lt 1 flag then broken IsProtected else yield (flag == 1)

-- the IV size is 0, 8 or 16
unfoldable pub iv_size : Reading ProtKind ℕ
iv_size = do
  size ← u8
  if size == 0 || (size == 8 || size == 16) then yield size else broken IvSize

-- an IV of 8 bytes
unfoldable pub eight : Reading ProtKind Iv
eight = some_bytes Short 8 >>= λ iv. yield (Eight iv)

-- an IV of 16 bytes
unfoldable pub sixteen : Reading ProtKind Iv
sixteen = some_bytes Short 16 >>= λ iv. yield (Sixteen iv)

-- the constant IV has 8 or 16 bytes
unfoldable pub constant_iv : Reading ProtKind Iv
constant_iv = do
  size ← u8
  if size == 8 then eight else if size == 16 then sixteen else broken IvSize

-- the constant IV stands where samples are protected and have no IV of their own
unfoldable pub seig_fields : Reading ProtKind Seig
seig_fields = do
  reserved ← u8
  pattern ← u8
  protected ← is_protected
  size ← iv_size
  kid ← some_bytes Short 16
  constant ← given (protected && size == 0) constant_iv
  yield (record { crypt = pattern / 16; skip = pattern % 16; protected = protected; iv_size = size; kid = kid; constant = constant })

-- ---- writing

-- a constant IV behind its size, where there is one
abbrev pub constant_body : Option Iv → List ℕ
constant_body None = []
constant_body (Some (Eight iv)) = 8 ∷ iv
constant_body (Some (Sixteen iv)) = 16 ∷ iv

-- the reserved bits are 0
unfoldable pub seig_body : Seig → List ℕ
seig_body s = 0 ∷ (16 * (s.crypt % 16) + s.skip % 16) ∷ (if s.protected then 1 else 0) ∷ s.iv_size ∷ [] ++ s.kid ++ constant_body s.constant

-- an IV has the bytes that its name says
abbrev pub IsIv : Iv → Type 0
IsIv (Eight iv) = length iv ≡ 8
IsIv (Sixteen iv) = length iv ≡ 16

-- a record that these fields can say
pub record IsCanonical (s : Seig) : Type 0 where
  pub kid : length s.kid ≡ 16
  pub iv : IfSome s.constant IsIv
  pub crypt : s.crypt < 16
  pub skip : s.skip < 16
  pub iv_size : (s.iv_size ≡ 0) ⊎ ((s.iv_size ≡ 8) ⊎ (s.iv_size ≡ 16))
  pub constant : is_some s.constant ≡ (s.protected && s.iv_size == 0)
