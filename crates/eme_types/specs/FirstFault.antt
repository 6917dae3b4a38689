-- Readings that stop at the first fault. They are generic in the fault.
use Rattle.std.specs.Prelude.{◌≡◌, ◌⊎◌, Bool, if◌then◌else◌, List, [], ◌∷◌, Option, Some, None, Result, Ok, Err}

infixl 10 ◌>>=◌
abbrev pub ◌>>=◌ : {E A B : Type 0} → Result A E → (A → Result B E) → Result B E
(Ok x) >>= f = f x
(Err e) >>= f = Err e

-- what has to hold, else this fault
abbrev pub demanded : {E : Type 0} → E → Bool → Result (Unit {0}) E
demanded fault holds = if holds then Ok tt else Err fault

-- what has to be there, else this fault
abbrev pub required : {E A : Type 0} → E → Option A → Result A E
required fault None = Err fault
required fault (Some x) = Ok x

-- each item is read, in order, up to the first that is refused
unfoldable pub read_each : {E A B : Type 0} → (A → Result B E) → List A → Result (List B) E
read_each read [] = Ok []
read_each read (x ∷ xs) = do
  y ← read x
  ys ← read_each read xs
  Ok (y ∷ ys)

-- the call gives, as it is seen, what the definition reads, or its first fault; want of memory alone is free
abbrev pub Gives : {X Y E : Type 0} → (E → Type 0) → (X → Y) → Result X E → Result Y E → Type 0
Gives WantsMemory view (Ok x) read = read ≡ Ok (view x)
Gives WantsMemory view (Err e) read = WantsMemory e ⊎ (read ≡ Err e)
