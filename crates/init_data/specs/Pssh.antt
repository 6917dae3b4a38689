-- Protection system specific headers (ISO/IEC 23001-7 section 8.1), alone in initialization data.
use Rattle.std.specs.Prelude.{◌≡◌, ℕ, ◌+◌, ◌%◌, ◌^◌, ◌≤◌, ◌==◌, Bool, false, ◌&&◌, List, [], ◌∷◌, ◌++◌, length, drop, bytes_eq, nat_lt, nat_le, Option, Some, None, Result, Ok, Err, codes, if◌then◌else◌, flat_map}
use Rattle.std.specs.List.{All}
use Rattle.std.specs.Int.{w8, w32, to_be_bytes}
use Rattle.eme_types.specs.FirstFault.{◌>>=◌, demanded, read_each}
use Rattle.eme_types.specs.declared.limits.TheConstants.{MAX_INIT_DATA_BYTES}
use Rattle.iso_boxes.specs.declared.walk.BoxFault.{BoxFault}
use Rattle.iso_boxes.specs.Reading.{number, number24, some_bytes, repeated}
use Rattle.iso_boxes.specs.Walk.{Found, Walked, before, walk}
use Rattle.iso_boxes.specs.Writing.{boxed}
use Rattle.init_data.specs.declared.fault.InitFault.{InitFault}
use Rattle.init_data.specs.declared.fault.InitFault.TheVariants.{Invalid}
use Rattle.init_data.specs.declared.pssh.Pssh.{Pssh}

-- ---- reading

-- so many key ids of 16 bytes, and what follows them
abbrev pub some_kids : ℕ → List ℕ → Result (List (List ℕ) × List ℕ) InitFault
some_kids count = repeated count (some_bytes Invalid 16)

-- key ids of 16 bytes, as many as a number of 32 bits says
unfoldable pub counted_kids : List ℕ → Result (List (List ℕ) × List ℕ) InitFault
counted_kids bytes = do
  count ← number Invalid w32 bytes
  some_kids count.0 count.1

-- version 0 has none
abbrev pub kids_at : ℕ → List ℕ → Result (List (List ℕ) × List ℕ) InitFault
kids_at version bytes = if version == 0 then Ok ([], bytes) else counted_kids bytes

-- the data, up to the end of the box
abbrev pub content_at : List ℕ → Result (List ℕ) InitFault
content_at bytes = do
  size ← number Invalid w32 bytes
  fits ← demanded Invalid (length size.1 == size.0)
  Ok size.1

-- the box of this body
unfoldable pub pssh_of : List ℕ → Result Pssh InitFault
pssh_of body = do
  version ← number Invalid w8 body
  flags ← number24 Invalid version.1
  system ← some_bytes Invalid 16 flags.1
  kids ← kids_at version.0 system.1
  content ← content_at kids.1
  Ok (record { version = version.0; system = system.0; kids = kids.0; content = content })

-- the box, where its type is `pssh`
unfoldable pub pssh_in : Found → Result Pssh InitFault
pssh_in at = if bytes_eq at.kind (codes "pssh") then pssh_of at.body else Err Invalid

-- no header is broken
abbrev pub ended : Option BoxFault → Result (Unit {0}) InitFault
ended None = Ok tt
ended (Some fault) = Err Invalid

-- boxes up to the end, each a `pssh`
unfoldable pub gathered : Walked → Result (List Pssh) InitFault
gathered w = do
  list ← read_each pssh_in w.boxes
  end ← ended w.fault
  Ok list

-- one or more boxes in at most 65,536 bytes, read as boxes inside a box
unfoldable pub pssh_list : List ℕ → Result (List Pssh) InitFault
pssh_list bytes = do
  fits ← demanded Invalid (nat_lt 0 (length bytes) && nat_le (length bytes) MAX_INIT_DATA_BYTES)
  gathered (walk bytes 0 false)

-- ---- writing

-- version 0 has none
abbrev pub listed_body : ℕ → List (List ℕ) → List ℕ
listed_body version kids = if version == 0 then [] else to_be_bytes w32 (length kids % 2 ^ 32) ++ flat_map (λ kid. kid) kids

-- the data behind its size
abbrev pub content_body : List ℕ → List ℕ
content_body content = to_be_bytes w32 (length content % 2 ^ 32) ++ content

-- the flags are 0
unfoldable pub pssh_body : Pssh → List ℕ
pssh_body p = p.version ∷ 0 ∷ 0 ∷ 0 ∷ (p.system ++ (listed_body p.version p.kids ++ content_body p.content))

-- the whole box
abbrev pub pssh_box : Pssh → List ℕ
pssh_box p = boxed (codes "pssh") (pssh_body p)

-- key ids of 16 bytes
abbrev pub AreSixteen : List (List ℕ) → Type 0
AreSixteen kids = All (λ kid. length kid ≡ 16) kids

-- each field fits its width, and initialization data may hold the box
pub record IsCanonical (p : Pssh) : Type 0 where
  pub system : length p.system ≡ 16
  pub kids : AreSixteen p.kids
  pub plain : p.version ≡ 0 → p.kids ≡ []
  pub short : length (pssh_box p) ≤ MAX_INIT_DATA_BYTES

-- behind the old bytes stands one box, and it is read as this record, whatever follows it and wherever the bytes stand
abbrev pub IsReadAgain : List ℕ → List ℕ → Pssh → Type 0
IsReadAgain old new p =
    (after : List ℕ) (base : ℕ) (top : Bool)
    → (b : Found)
    × ((walk (drop (length old) new ++ after) (base + length old) top ≡ before b (walk after (base + length new) top))
    × ((b.place ≡ base + length old) × (pssh_in b ≡ Ok p)))
