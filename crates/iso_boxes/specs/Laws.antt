-- What holds of every walk.
use Rattle.std.specs.Prelude.{◌≡◌, ℕ, ◌+◌, ◌^◌, ◌≤◌, ◌<◌, Bool, List, ◌++◌, length}
use Rattle.std.specs.List.{All}
use Rattle.iso_boxes.specs.Walk.{Found, LiesIn, before, walk}
use Rattle.iso_boxes.specs.Writing.{boxed}

-- each box of a walk lies in the bytes where it says
abbrev pub BoxesLie : Type 0
BoxesLie = (bytes : List ℕ) (base : ℕ) (top : Bool) → All (LiesIn bytes base) (walk bytes base top).boxes

-- a box in a box lies in the bytes around both
abbrev pub BoxesNest : Type 0
BoxesNest = (bytes : List ℕ) (base : ℕ) (outer inner : Found) → LiesIn bytes base outer → LiesIn outer.body outer.body_place inner → LiesIn bytes base inner

-- a walk has no more boxes than bytes
abbrev pub BoxesTakeBytes : Type 0
BoxesTakeBytes = (bytes : List ℕ) (base : ℕ) (top : Bool) → length (walk bytes base top).boxes ≤ length bytes

-- a box that was written is read again at its place, and the walk goes on behind it
abbrev pub WrittenBoxesAreRead : Type 0
WrittenBoxesAreRead = (kind body after : List ℕ) (place : ℕ) (top : Bool) → length kind ≡ 4 → 8 + length body < 2 ^ 32
    → walk (boxed kind body ++ after) place top
    ≡ before (record { kind = kind; place = place; body = body; body_place = place + 8 }) (walk after (place + (8 + length body)) top)
