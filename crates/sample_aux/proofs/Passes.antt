-- Checking one after the other, as a loop does.
use Rattle.std.proofs.Common.{◌≡◌, List, [], ◌∷◌, Result, Ok, Err, sym}
use Rattle.sample_aux.specs.declared.fault.AuxFault.{AuxFault}
use Rattle.sample_aux.specs.InOrder.{each_passes}

pub one_more : {A : Type 0} (check : A → Result (Unit {0}) AuxFault) (x : A) (xs : List A) (total : Result (Unit {0}) AuxFault) → check x ≡ Ok tt → each_passes check (x ∷ xs) ≡ total → each_passes check xs ≡ total
unfolding each_passes
one_more check x xs total h so_far = rw h at so_far

pub broken_off : {A : Type 0} (check : A → Result (Unit {0}) AuxFault) (x : A) (xs : List A) (f : AuxFault) (total : Result (Unit {0}) AuxFault) → check x ≡ Err f → each_passes check (x ∷ xs) ≡ total → total ≡ Err f
unfolding each_passes
broken_off check x xs f total h so_far = sym (rw h at so_far)

pub finished : {A : Type 0} (check : A → Result (Unit {0}) AuxFault) (total : Result (Unit {0}) AuxFault) → each_passes check [] ≡ total → total ≡ Ok tt
unfolding each_passes
finished check total so_far = sym so_far
