-- The protection scheme information box, sinf (ISO/IEC 14496-12 section 8.12.1), for the schemes of ISO/IEC 23001-7 section 10.
use Rattle.std.specs.Prelude.{◌≡◌, ℕ, Bool, true, false, not, ◌&&◌, ◌||◌, List, [], ◌∷◌, ◌++◌, codes, bytes_eq, Option, Some, None, Result, Ok, Err, ◌==◌, if◌then◌else◌}
use Rattle.eme_types.specs.declared.sample.Iv.{Iv}
use Rattle.eme_types.specs.declared.sample.Iv.TheVariants.{Eight, Sixteen}
use Rattle.eme_types.specs.declared.sample.Scheme.{Scheme}
use Rattle.eme_types.specs.declared.sample.Scheme.TheVariants.{Cenc, Cbcs}
use Rattle.iso_boxes.specs.Walk.{Found, inside}
use Rattle.iso_boxes.specs.Writing.{boxed}
use Rattle.iso_boxes.specs.Children.{◌>>=◌, all_knowing, first_read, required, first}
use Rattle.prot_boxes.specs.Answers.{fault_at, header_fault}
use Rattle.prot_boxes.specs.Schm.{schm_at, schm_body}
use Rattle.prot_boxes.specs.Tenc.{tenc_at, tenc_body, IsCanonical as SuitsTenc}
use Rattle.prot_boxes.specs.declared.fault.ProtFault.{ProtFault}
use Rattle.prot_boxes.specs.declared.fault.ProtKind.{ProtKind}
use Rattle.prot_boxes.specs.declared.fault.ProtKind.TheVariants.{IvSize, Pattern, Scheme as OtherScheme, NoTenc}
use Rattle.prot_boxes.specs.declared.schm.Schm.{Schm}
use Rattle.prot_boxes.specs.declared.tenc.Tenc.{Tenc}
use Rattle.prot_boxes.specs.declared.sinf.Sinf.{Sinf}
use Rattle.prot_boxes.specs.declared.sinf.Held.{Held}
use Rattle.prot_boxes.specs.declared.sinf.Schi.{Schi}
use Rattle.prot_boxes.specs.declared.sinf.SinfBox.{SinfBox}
use Rattle.prot_boxes.specs.declared.sinf.SinfBox.TheVariants as sinf
use Rattle.prot_boxes.specs.declared.sinf.SinfPart.{SinfPart}
use Rattle.prot_boxes.specs.declared.sinf.SinfPart.TheVariants as part

-- ---- the children

-- the types of boxes that are read here
unfoldable pub sinf_box : List ℕ → SinfBox
sinf_box kind = if bytes_eq kind (codes "schm") then sinf.Schm else if bytes_eq kind (codes "schi") then sinf.Schi else sinf.Other

-- a tenc and where it stands
abbrev pub held_at : Found → Result Held ProtFault
held_at b = tenc_at b >>= λ t. Ok (record { place = b.place; tenc = t })

-- the first tenc in a schi
unfoldable pub schi_at : Found → Result Schi ProtFault
schi_at b = first_read header_fault (λ i. bytes_eq i.kind (codes "tenc")) held_at (inside b) >>= λ held. Ok (record { tenc = held })

-- whether a schm and a schi were read before
pub record Seen : Type 0 where
  pub schm : Bool
  pub schi : Bool

-- the first schm and the first schi are read, all else is passed over
abbrev pub part_as : SinfBox → Seen → Found → Result SinfPart ProtFault
part_as sinf.Schm seen b = if seen.schm then Ok part.Other else (schm_at b >>= λ s. Ok (part.Scheme s))
part_as sinf.Schi seen b = if seen.schi then Ok part.Other else (schi_at b >>= λ s. Ok (part.Info s))
part_as sinf.Other seen b = Ok part.Other

-- what is read of one box by its type
abbrev pub part_at : Seen → Found → Result SinfPart ProtFault
part_at seen b = part_as (sinf_box b.kind) seen b

-- what is among what was read, with this part
abbrev pub learn : Seen → SinfPart → Seen
learn seen (part.Scheme s) = record seen { schm = true }
learn seen (part.Info s) = record seen { schi = true }
learn seen part.Other = seen

-- its schm
abbrev pub schms : List SinfPart → List Schm
schms [] = []
schms (part.Scheme s ∷ ps) = s ∷ schms ps
schms (_ ∷ ps) = schms ps

-- its schi
abbrev pub schis : List SinfPart → List Schi
schis [] = []
schis (part.Info s ∷ ps) = s ∷ schis ps
schis (_ ∷ ps) = schis ps

-- ---- the rules at the end

-- the scheme of a type: cenc or cbcs
unfoldable pub named : Schm → Option Scheme
named s = if bytes_eq s.kind (codes "cenc") then Some Cenc else if bytes_eq s.kind (codes "cbcs") then Some Cbcs else None

-- the scheme, where a schm names one
abbrev pub scheme_of : Option Schm → Option Scheme
scheme_of None = None
scheme_of (Some s) = named s

-- the tenc of a schi, where there is one
abbrev pub held_in : Option Schi → Option Held
held_in None = None
held_in (Some s) = s.tenc

-- a constant IV of 8 bytes
abbrev pub is_eight : Option Iv → Bool
is_eight None = false
is_eight (Some (Eight iv)) = true
is_eight (Some (Sixteen iv)) = false

-- `cbcs` takes IVs of 16 bytes, and a pattern that skips also encrypts
unfoldable pub cbcs_rules : Tenc → Result Tenc ProtKind
cbcs_rules t =
    if not t.protected then Ok t
    else if t.iv_size == 8 || is_eight t.constant then Err IvSize
    else if t.crypt == 0 && not (t.skip == 0) then Err Pattern
    else Ok t

-- what a scheme asks of a tenc
abbrev pub scheme_rules : Scheme → Tenc → Result Tenc ProtKind
scheme_rules Cenc t = Ok t
scheme_rules Cbcs t = cbcs_rules t

-- a broken rule of the scheme has the place of the tenc
abbrev pub ruled : ℕ → Result Tenc ProtKind → Result Tenc ProtFault
ruled place (Ok t) = Ok t
ruled place (Err k) = Err (fault_at place k)

-- the scheme, then the tenc, then what the scheme asks of it, which has the place of the tenc
unfoldable pub sinf_of : ℕ → Option Schm → Option Schi → Result Sinf ProtFault
sinf_of place schm schi = do
  scheme ← required (fault_at place OtherScheme) (scheme_of schm)
  held ← required (fault_at place NoTenc) (held_in schi)
  tenc ← ruled held.place (scheme_rules scheme held.tenc)
  Ok (record { scheme = scheme; tenc = tenc })

-- a sinf
unfoldable pub sinf_at : Found → Result Sinf ProtFault
sinf_at b = all_knowing header_fault part_at learn (record { schm = false; schi = false }) (inside b) >>= λ ps. sinf_of b.place (first (schms ps)) (first (schis ps))

-- ---- writing

-- the type that names a scheme
abbrev pub scheme_code : Scheme → List ℕ
scheme_code Cenc = codes "cenc"
scheme_code Cbcs = codes "cbcs"

-- a frma with the type avc1, a schm of version 1.0, and a schi with the tenc
unfoldable pub sinf_body : Sinf → List ℕ
sinf_body s =
    boxed (codes "frma") (codes "avc1")
    ++ (boxed (codes "schm") (schm_body (record { kind = scheme_code s.scheme; version = 65536 }))
    ++ boxed (codes "schi") (boxed (codes "tenc") (tenc_body s.tenc)))

-- a record that passes the rules
pub record IsCanonical (s : Sinf) : Type 0 where
  pub tenc : SuitsTenc s.tenc
  pub rules : scheme_rules s.scheme s.tenc ≡ Ok s.tenc
