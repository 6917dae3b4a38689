-- Boxes that are read in file order, each whole, up to the first broken rule.
use Rattle.std.specs.Prelude.{ℕ, Bool, List, [], ◌∷◌, Option, Some, None, Result, Ok, Err, find}
pub use Rattle.eme_types.specs.FirstFault.{◌>>=◌, required}
use Rattle.iso_boxes.specs.declared.walk.BoxFault.{BoxFault}
use Rattle.iso_boxes.specs.declared.walk.BoxFault.TheVariants.{Short, SizeTooSmall, PastEnd}
use Rattle.iso_boxes.specs.Walk.{Found, Walked}

-- each of them in order, each in the knowledge of what those before it were
unfoldable pub each_knowing : {E A K : Type 0} → (K → Found → Result A E) → (K → A → K) → K → List Found → Result (List A) E
each_knowing read learn known [] = Ok []
each_knowing read learn known (b ∷ bs) = do
  x ← read known b
  xs ← each_knowing read learn (learn known x) bs
  Ok (x ∷ xs)

-- a box is read, where there is one
abbrev pub if_any : {E A : Type 0} → (Found → Result A E) → Option Found → Result (Option A) E
if_any read None = Ok None
if_any read (Some b) = read b >>= λ x. Ok (Some x)

-- a broken header as a fault of its place, of one kind for each of the three rules
abbrev pub broken_header : {E K : Type 0} → (ℕ → K → E) → K → K → K → BoxFault → E
broken_header fault_at short small past (Short place) = fault_at place short
broken_header fault_at short small past (SizeTooSmall place) = fault_at place small
broken_header fault_at short small past (PastEnd place) = fault_at place past

-- behind the boxes stands their end, or a broken header
abbrev pub ended : {E : Type 0} → (BoxFault → E) → Option BoxFault → Result (Unit {0}) E
ended header None = Ok tt
ended header (Some f) = Err (header f)

-- the boxes up to the end
unfoldable pub all_knowing : {E A K : Type 0} → (BoxFault → E) → (K → Found → Result A E) → (K → A → K) → K → Walked → Result (List A) E
all_knowing header read learn known w = do
  xs ← each_knowing read learn known w.boxes
  end ← ended header w.fault
  Ok xs

-- where none is to know of the others
abbrev pub all_read : {E A : Type 0} → (BoxFault → E) → (Found → Result A E) → Walked → Result (List A) E
all_read header read w = all_knowing header (λ (none : Unit {0}) b. read b) (λ none x. tt) tt w

-- the first box that passes the test, read, where there is one; then the end
unfoldable pub first_read : {E A : Type 0} → (BoxFault → E) → (Found → Bool) → (Found → Result A E) → Walked → Result (Option A) E
first_read header test read w = do
  x ← if_any read (find test w.boxes)
  end ← ended header w.fault
  Ok x

-- the first of a list, where it has one
abbrev pub first : {A : Type 0} → List A → Option A
first [] = None
first (x ∷ xs) = Some x

-- of several the first
abbrev pub first_or : {A : Type 0} → Option A → A → Option A
first_or None x = Some x
first_or (Some y) x = Some y

-- the body of a box read by its layout; a broken rule has its place in the box
abbrev pub placed : {E K A : Type 0} → (K → E) → Result (A × List ℕ) K → Result A E
placed at (Ok x) = Ok x.0
placed at (Err k) = Err (at k)

-- what was read whole before the first broken rule
abbrev pub onward : {E A : Type 0} → Result A E → (A → List A) → List A
onward (Ok x) rest = x ∷ rest x
onward (Err e) rest = []

-- the parts that are read whole, up to the first box that breaks a rule
unfoldable pub read_before : {E A K : Type 0} → (K → Found → Result A E) → (K → A → K) → K → List Found → List A
read_before read learn known [] = []
read_before read learn known (b ∷ bs) = onward (read known b) (λ x. read_before read learn (learn known x) bs)
