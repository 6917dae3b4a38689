-- A walk over boxes (ISO/IEC 14496-12 section 4.2): a size of 32 bits and a type of 4 bytes; size 1 means that a size of 64
-- bits follows; size 0 means 'to the end', and stands at the top level alone. A size counts the header.
use Rattle.std.specs.Prelude.{◌≡◌, ℕ, zero, suc, ◌+◌, ◌-◌, ◌≤◌, Bool, false, ◌&&◌, List, [], ◌∷◌, length, take, drop, Option, Some, None, Result, Ok, Err, nat_lt, ◌==◌, if◌then◌else◌}
use Rattle.std.specs.Int.{w32, w64, from_be_bytes}
use Rattle.iso_boxes.specs.declared.walk.BoxRef.{BoxRef}
use Rattle.iso_boxes.specs.declared.walk.BoxFault.{BoxFault}
use Rattle.iso_boxes.specs.declared.walk.BoxFault.TheVariants.{Short, SizeTooSmall, PastEnd}

-- a box, and where it and its body begin
pub record Found : Type 0 where
  pub kind : List ℕ
  pub place : ℕ
  pub body : List ℕ
  pub body_place : ℕ

-- what is left of a walk: the bytes, the place of the first of them, and whether they are at the top level
pub record Left : Type 0 where
  pub bytes : List ℕ
  pub place : ℕ
  pub top : Bool

-- the number in the first 4 bytes
abbrev pub be32 : List ℕ → ℕ
be32 bytes = from_be_bytes w32 (take 4 bytes)

-- the number in the first 8 bytes
abbrev pub be64 : List ℕ → ℕ
be64 bytes = from_be_bytes w64 (take 8 bytes)

-- the lengths of the header and of the whole box at the front; none where the header is cut short
unfoldable pub lengths : List ℕ → Bool → Option (ℕ × ℕ)
lengths bytes top =
    if nat_lt (length bytes) 8 then None
    else if be32 bytes == 1 then (if nat_lt (length bytes) 16 then None else Some (16, be64 (drop 8 bytes)))
    else if be32 bytes == 0 && top then Some (8, length bytes)
    else Some (8, be32 bytes)

-- the box at the front and the bytes behind it, given the lengths, or the rule that it breaks
abbrev pub cut : List ℕ → ℕ → Option (ℕ × ℕ) → Result (Found × List ℕ) BoxFault
cut bytes place None = Err (Short place)
cut bytes place (Some l) =
    if nat_lt l.1 l.0 then Err (SizeTooSmall place)
    else if nat_lt (length bytes) l.1 then Err (PastEnd place)
    else Ok (
      record { kind = take 4 (drop 4 bytes); place = place; body = drop l.0 (take l.1 bytes); body_place = place + l.0 },
      drop l.1 bytes,
    )

-- the box at the front and the bytes behind it
unfoldable pub first_box : List ℕ → ℕ → Bool → Result (Found × List ℕ) BoxFault
first_box bytes place top = cut bytes place (lengths bytes top)

-- what a call gives: the box at the front, none at the end, or the fault
abbrev pub boxes_given : Result (Found × List ℕ) BoxFault → Result (Option Found) BoxFault
boxes_given (Ok x) = Ok (Some x.0)
boxes_given (Err f) = Err f

-- what the next call gives: none at the end of the bytes
unfoldable pub next_box : Left → Result (Option Found) BoxFault
next_box w = if length w.bytes == 0 then Ok None else boxes_given (first_box w.bytes w.place w.top)

-- what a call leaves: the bytes behind the box; at the end and at a fault all as it was
abbrev pub left_behind : Left → Result (Found × List ℕ) BoxFault → Left
left_behind w (Ok x) = record w { bytes = x.1; place = w.place + (length w.bytes - length x.1) }
left_behind w (Err f) = w

-- what the next call leaves
unfoldable pub after_next : Left → Left
after_next w = if length w.bytes == 0 then w else left_behind w (first_box w.bytes w.place w.top)

-- ---- a whole walk

-- the boxes up to the end or the first fault
pub record Walked : Type 0 where
  pub boxes : List Found
  pub fault : Option BoxFault

-- a call's answer, and then the rest of the walk
abbrev pub continued : Result (Option Found) BoxFault → Walked → Walked
continued (Ok None) rest = record { boxes = []; fault = None }
continued (Ok (Some b)) rest = record rest { boxes = b ∷ rest.boxes }
continued (Err f) rest = record { boxes = []; fault = Some f }

-- at most n boxes
unfoldable pub walk_of : ℕ → Left → Walked
walk_of zero w = record { boxes = []; fault = None }
walk_of (suc n) w = continued (next_box w) (walk_of n (after_next w))

-- the boxes that are left; each box takes bytes, so there are no more boxes than bytes
unfoldable pub boxes_left : Left → Walked
boxes_left w = walk_of (length w.bytes) w

-- the boxes of bytes whose first has the place base
unfoldable pub walk : List ℕ → ℕ → Bool → Walked
walk bytes base top = boxes_left (record { bytes = bytes; place = base; top = top })

-- a box as clauses see it
abbrev pub found : BoxRef → Found
found b = record { kind = b.kind; place = b.place; body = b.body.now; body_place = b.body_place }

-- what a call says of the boxes that are left before it and after it
abbrev pub Steps : Result (Option BoxRef) BoxFault → Walked → Walked → Type 0
Steps (Ok None) old new = old ≡ record { boxes = []; fault = None }
Steps (Ok (Some b)) old new = old ≡ record { boxes = found b ∷ new.boxes; fault = new.fault }
Steps (Err f) old new = old ≡ record { boxes = []; fault = Some f }

-- a box in front of the rest of a walk
abbrev pub before : Found → Walked → Walked
before b w = record { boxes = b ∷ w.boxes; fault = w.fault }

-- at the end and at a fault all is as before the call
abbrev pub Rests : Result (Option BoxRef) BoxFault → Left → Left → Type 0
Rests (Ok None) old new = new ≡ old
Rests (Ok (Some b)) old new = Unit {0}
Rests (Err f) old new = new ≡ old

-- the part of bytes that stands at a place, where the first of the bytes has the place base
pub record StandsIn (bytes : List ℕ) (base : ℕ) (part : List ℕ) (place : ℕ) : Type 0 where
  pub from : base ≤ place
  pub to : place + length part ≤ base + length bytes
  pub same : part ≡ take (length part) (drop (place - base) bytes)

-- a box lies in bytes where it says
pub record LiesIn (bytes : List ℕ) (base : ℕ) (b : Found) : Type 0 where
  pub from : base ≤ b.place
  pub header : b.place + 8 ≤ b.body_place
  pub body : StandsIn bytes base b.body b.body_place

-- the boxes inside a box
abbrev pub inside : Found → Walked
inside b = walk b.body b.body_place false
