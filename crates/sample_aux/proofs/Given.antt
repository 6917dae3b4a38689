-- Reading up to the first that gives something.
use Rattle.std.proofs.Common.{◌≡◌, true, false, List, [], ◌∷◌, Option, Some, None, Result, Ok, Err, sym, subst}
use Rattle.std.specs.Prelude.{is_some}
use Rattle.iso_boxes.specs.Walk.{Found}
use Rattle.sample_aux.specs.Spans.{first_given}

pub found_here : {E A : Type 0} (read : Found → Result (Option A) E) (b : Found) (bs : List Found) (o : Option A) (total : Result (Option A) E) → is_some o ≡ true → read b ≡ Ok o → first_given read (b ∷ bs) ≡ total → total ≡ Ok o
unfolding first_given
found_here read b bs None total s h e = absurd cc
found_here read b bs (Some x) total s h e = sym (rw h at e)

pub not_here : {E A : Type 0} (read : Found → Result (Option A) E) (b : Found) (bs : List Found) (o : Option A) (total : Result (Option A) E) → is_some o ≡ false → read b ≡ Ok o → first_given read (b ∷ bs) ≡ total → first_given read bs ≡ total
unfolding first_given
not_here read b bs None total s h e = rw h at e
not_here read b bs (Some x) total s h e = absurd cc

pub broken_here : {E A : Type 0} (read : Found → Result (Option A) E) (b : Found) (bs : List Found) (f : E) (total : Result (Option A) E) → read b ≡ Err f → first_given read (b ∷ bs) ≡ total → total ≡ Err f
unfolding first_given
broken_here read b bs f total h e = sym (rw h at e)

pub none_given : {E A : Type 0} (read : Found → Result (Option A) E) (total : Result (Option A) E) → first_given read [] ≡ total → total ≡ Ok None
unfolding first_given
none_given read total e = sym e

pub of_box : {E A : Type 0} (read : Found → Result (Option A) E) (a b : Found) (r : Result (Option A) E) → a ≡ b → read a ≡ r → read b ≡ r
of_box read a b r e h = let P : Found → Type 0 = λ x. read x ≡ r in subst P e h
