-- What readers and writers of boxes answer.
use Rattle.std.specs.Prelude.{◌≡◌, ℕ, ◌+◌, Bool, List, ◌++◌, length, drop, Result, Ok, Err}
use Rattle.iso_boxes.specs.declared.walk.BoxFault.{BoxFault}
use Rattle.eme_types.specs.FirstFault as first_fault
use Rattle.iso_boxes.specs.Children.{broken_header}
use Rattle.iso_boxes.specs.Walk.{Found, before, walk}
use Rattle.prot_boxes.specs.declared.fault.ProtKind.{ProtKind}
use Rattle.prot_boxes.specs.declared.fault.ProtKind.TheVariants.{Short, SizeTooSmall, PastEnd, OutOfMemory}
use Rattle.prot_boxes.specs.declared.fault.ProtFault.{ProtFault}

-- a broken rule at a place
abbrev pub fault_at : ℕ → ProtKind → ProtFault
fault_at place kind = record { place = place; kind = kind }

-- a broken header inside a box
abbrev pub header_fault : BoxFault → ProtFault
header_fault f = broken_header fault_at Short SizeTooSmall PastEnd f

-- what was answered, seen by view, is what is read
abbrev pub Reads : {X Y : Type 0} → (X → Y) → Result X ProtKind → Result Y ProtKind → Type 0
Reads view (Ok x) read = read ≡ Ok (view x)
Reads view (Err e) read = read ≡ Err e

-- the same, unless memory ran out
abbrev pub Gives : {X Y : Type 0} → (X → Y) → Result X ProtKind → Result Y ProtKind → Type 0
Gives view result read = first_fault.Gives (λ e. e ≡ OutOfMemory) view result read

-- the same of a whole box
abbrev pub GivesBox : {X : Type 0} → Result X ProtFault → Result X ProtFault → Type 0
GivesBox result read = first_fault.Gives (λ e. e.kind ≡ OutOfMemory) (λ x. x) result read

-- behind the old bytes stands one box, and it is read as this record, whatever follows it and wherever the bytes stand
abbrev pub IsReadAgain : {X : Type 0} → (Found → Result X ProtFault) → List ℕ → List ℕ → X → Type 0
IsReadAgain read old new x =
    (after : List ℕ) (base : ℕ) (top : Bool)
    → (b : Found)
    × ((walk (drop (length old) new ++ after) (base + length old) top ≡ before b (walk after (base + length new) top))
    × ((b.place ≡ base + length old) × (read b ≡ Ok x)))
