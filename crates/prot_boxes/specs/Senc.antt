-- The IVs and subsamples of samples, senc (ISO/IEC 23001-7 section 7.2).
use Rattle.std.specs.Prelude.{◌≡◌, ℕ, ◌<◌, ◌%◌, ◌^◌, Bool, true, false, List, [], ◌∷◌, ◌++◌, length, map, Option, Some, None, IfSome, Result, ◌==◌, if◌then◌else◌}
use Rattle.std.specs.List.{All, flat_map}
use Rattle.std.specs.Int.{w8, w16, w32, to_be_bytes}
use Rattle.eme_types.specs.declared.sample.Iv.{Iv}
use Rattle.eme_types.specs.declared.sample.Iv.TheVariants.{Eight, Sixteen}
use Rattle.eme_types.specs.declared.sample.Sub.{Sub}
use Rattle.iso_boxes.specs.Reading.{Reading, ◌>>=◌, yield, broken, number, number24, repeated, one_each, has}
use Rattle.iso_boxes.specs.Walk.{Found}
use Rattle.iso_boxes.specs.Children.{placed}
use Rattle.prot_boxes.specs.Answers.{fault_at}
use Rattle.prot_boxes.specs.Seig.{eight, sixteen, IsIv}
use Rattle.prot_boxes.specs.declared.fault.ProtFault.{ProtFault}
use Rattle.prot_boxes.specs.declared.fault.ProtKind.{ProtKind}
use Rattle.prot_boxes.specs.declared.fault.ProtKind.TheVariants.{Short, CountDiffers}
use Rattle.prot_boxes.specs.declared.senc.SencItem.{SencItem}
use Rattle.prot_boxes.specs.declared.senc.Senc.{Senc}

-- an IV of this size, which is 0, 8 or 16
abbrev pub iv_fields : ℕ → Reading ProtKind (Option Iv)
iv_fields size =
    if size == 8 then (eight >>= λ iv. yield (Some iv))
    else if size == 16 then (sixteen >>= λ iv. yield (Some iv))
    else yield None

-- a subsample: its clear and its protected bytes
unfoldable pub sub : Reading ProtKind Sub
sub = do
  clear ← number Short w16
  prot ← number Short w32
  yield (record { clear = clear; prot = prot })

-- as many subsamples as are counted
unfoldable pub counted_subs : Reading ProtKind (List Sub)
counted_subs = do
  count ← number Short w16
  repeated count sub

-- subsamples stand where flag 2 is set
abbrev pub subs_if : Bool → Reading ProtKind (List Sub)
subs_if true = counted_subs
subs_if false = yield []

-- what a sample has: its IV and its subsamples
unfoldable pub item : Bool → ℕ → Reading ProtKind SencItem
item flag2 size = do
  iv ← iv_fields size
  subs ← subs_if flag2
  yield (record { iv = iv; subs = subs })

-- the count is the number of samples; it is tested before anything else is read
unfoldable pub senc_fields : List ℕ → Reading ProtKind Senc
senc_fields sizes = do
  version ← number Short w8
  flags ← number24 Short
  count ← number Short w32
  if count == length sizes then (one_each (item (has 0x2 flags)) sizes >>= λ items. yield (record { items = items; flag2 = has 0x2 flags })) else broken CountDiffers

-- a senc for samples with these IV sizes
abbrev pub senc_at : List ℕ → Found → Result Senc ProtFault
senc_at sizes b = placed (fault_at b.place) (senc_fields sizes b.body)

-- ---- writing

-- an IV without its size
abbrev pub iv_body : Option Iv → List ℕ
iv_body None = []
iv_body (Some (Eight iv)) = iv
iv_body (Some (Sixteen iv)) = iv

-- a subsample
abbrev pub sub_body : Sub → List ℕ
sub_body s = to_be_bytes w16 s.clear ++ to_be_bytes w32 s.prot

-- subsamples behind their count
unfoldable pub subs_body : List Sub → List ℕ
subs_body subs = to_be_bytes w16 (length subs % 2 ^ 16) ++ flat_map sub_body subs

-- subsamples stand where flag 2 is set
abbrev pub subs_body_if : Bool → List Sub → List ℕ
subs_body_if true subs = subs_body subs
subs_body_if false subs = []

-- what a sample has
abbrev pub item_body : Bool → SencItem → List ℕ
item_body flag2 i = iv_body i.iv ++ subs_body_if flag2 i.subs

-- version 0; flag 2 as the record says
unfoldable pub senc_body : Senc → List ℕ
senc_body s = 0 ∷ 0 ∷ 0 ∷ (if s.flag2 then 2 else 0) ∷ (to_be_bytes w32 (length s.items % 2 ^ 32) ++ flat_map (item_body s.flag2) s.items)

-- the IV sizes that a record states
abbrev pub iv_length : SencItem → ℕ
iv_length i = of_iv i.iv where
  of_iv : Option Iv → ℕ
  of_iv None = 0
  of_iv (Some (Eight iv)) = 8
  of_iv (Some (Sixteen iv)) = 16

-- the IV size of each sample that a record states
abbrev pub iv_lengths : Senc → List ℕ
iv_lengths s = map iv_length s.items

-- an item that fits its widths, and has no subsamples where flag 2 is not set
pub record SuitsItem (flag2 : Bool) (i : SencItem) : Type 0 where
  pub iv : IfSome i.iv IsIv
  pub count : length i.subs < 2 ^ 16
  pub subs : All (λ s. (s.clear < 2 ^ 16) × (s.prot < 2 ^ 32)) i.subs
  pub plain : flag2 ≡ false → i.subs ≡ []

-- a record that these fields can say
pub record IsCanonical (s : Senc) : Type 0 where
  pub count : length s.items < 2 ^ 32
  pub items : All (SuitsItem s.flag2) s.items
