-- Samples are taken in order, by their numbers; tracks, sample entries and samples are checked in order.
use Rattle.std.specs.Prelude.{ℕ, zero, suc, ◌+◌, List, [], ◌∷◌, Result, Ok}
use Rattle.iso_boxes.specs.Children.{◌>>=◌}
use Rattle.sample_aux.specs.declared.fault.AuxFault.{AuxFault}

-- numbers k and on, as many as are said, each in the knowledge of what those before it were
unfoldable pub in_order : {A K : Type 0} → (K → ℕ → Result A AuxFault) → (K → A → K) → K → ℕ → ℕ → Result (List A) AuxFault
in_order read learn known k zero = Ok []
in_order read learn known k (suc n) = do
  x ← read known k
  xs ← in_order read learn (learn known x) (k + 1) n
  Ok (x ∷ xs)

-- what is known behind them
abbrev pub learnt : {A K : Type 0} → (K → A → K) → K → List A → K
learnt learn known [] = known
learnt learn known (x ∷ xs) = learnt learn (learn known x) xs

-- as many, from 0 on, where none is to know of the others
abbrev pub each_number : {A : Type 0} → (ℕ → Result A AuxFault) → ℕ → Result (List A) AuxFault
each_number read n = in_order (λ (none : Unit {0}) k. read k) (λ none x. tt) tt 0 n

-- each passes, or the first that does not is refused
unfoldable pub each_passes : {A : Type 0} → (A → Result (Unit {0}) AuxFault) → List A → Result (Unit {0}) AuxFault
each_passes check [] = Ok tt
each_passes check (x ∷ xs) = check x >>= λ passed. each_passes check xs
