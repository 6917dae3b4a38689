-- Which group each sample is of, sbgp (ISO/IEC 14496-12 section 8.9.2).
use Rattle.std.specs.Prelude.{ℕ, ◌<◌, ◌%◌, ◌^◌, List, ◌∷◌, ◌++◌, length, codes, bytes_eq, Option, Result, ◌==◌}
use Rattle.std.specs.List.{All, flat_map}
use Rattle.std.specs.Int.{w8, w32, to_be_bytes}
use Rattle.iso_boxes.specs.Reading.{Reading, ◌>>=◌, yield, number, number24, some_bytes, given, repeated}
use Rattle.iso_boxes.specs.Walk.{Found}
use Rattle.iso_boxes.specs.Children.{placed}
use Rattle.prot_boxes.specs.Answers.{fault_at}
use Rattle.prot_boxes.specs.declared.fault.ProtFault.{ProtFault}
use Rattle.prot_boxes.specs.declared.fault.ProtKind.{ProtKind}
use Rattle.prot_boxes.specs.declared.fault.ProtKind.TheVariants.{Short}
use Rattle.prot_boxes.specs.declared.sbgp.SbgpItem.{SbgpItem}
use Rattle.prot_boxes.specs.declared.sbgp.Sbgp.{Sbgp}

-- a number of 32 bits
abbrev pub u32 : Reading ProtKind ℕ
u32 = number Short w32

-- so many samples are of the group with this index
unfoldable pub item : Reading ProtKind SbgpItem
item = do
  count ← u32
  index ← u32
  yield (record { count = count; index = index })

-- version 1 has a parameter before the count
unfoldable pub items : ℕ → Reading ProtKind Sbgp
items version = do
  parameter ← given (version == 1) u32
  count ← u32
  entries ← repeated count item
  yield (record { entries = entries })

-- groups of another type than seig are not read
unfoldable pub sbgp_fields : Reading ProtKind (Option Sbgp)
sbgp_fields = do
  version ← number Short w8
  flags ← number24 Short
  kind ← some_bytes Short 4
  given (bytes_eq kind (codes "seig")) (items version)

-- an sbgp; none where it groups by another type
abbrev pub sbgp_at : Found → Result (Option Sbgp) ProtFault
sbgp_at b = placed (fault_at b.place) (sbgp_fields b.body)

-- ---- writing

-- a count and the index of a group
abbrev pub item_body : SbgpItem → List ℕ
item_body i = to_be_bytes w32 i.count ++ to_be_bytes w32 i.index

-- version 0
unfoldable pub sbgp_body : Sbgp → List ℕ
sbgp_body s = 0 ∷ 0 ∷ 0 ∷ 0 ∷ (codes "seig" ++ (to_be_bytes w32 (length s.entries % 2 ^ 32) ++ flat_map item_body s.entries))

-- each field fits its width
pub record IsCanonical (s : Sbgp) : Type 0 where
  pub count : length s.entries < 2 ^ 32
  pub entries : All (λ i. (i.count < 2 ^ 32) × (i.index < 2 ^ 32)) s.entries
