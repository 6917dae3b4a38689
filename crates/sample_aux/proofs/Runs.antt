-- Runs are laid one after the other.
use Rattle.std.proofs.Common.{◌≡◌, ℕ, suc, ◌+◌, ◌<◌, List, [], ◌∷◌, ◌++◌, length, drop, get_or, Result, Ok, Err, refl, sym, ap, ◌∙◌, append_assoc, add-one, drop-cons}
use Rattle.std.specs.Prelude.{ℤ}
use Rattle.std.proofs.lemmas.List.{append-nil}
use Rattle.iso_boxes.specs.Children.{◌>>=◌}
use Rattle.frag_boxes.specs.declared.records.Trun.{Trun}
use Rattle.sample_aux.specs.declared.fault.AuxFault.{AuxFault}
use Rattle.sample_aux.specs.declared.laying.DataCursor.{DataCursor}
use Rattle.sample_aux.specs.declared.laying.SampleRange.{SampleRange}
use Rattle.sample_aux.specs.Laying.{run_laid, begun, runs_laid}

abbrev pub with_front : List SampleRange → Result (List SampleRange × DataCursor) AuxFault → Result (List SampleRange × DataCursor) AuxFault
with_front front (Ok x) = Ok (front ++ x.0, x.1)
with_front front (Err e) = Err e

regroup : (front : List SampleRange) (one : List SampleRange) (rest : Result (List SampleRange × DataCursor) AuxFault) → with_front front (rest >>= λ x. Ok (one ++ x.0, x.1)) ≡ with_front (front ++ one) rest
regroup front one (Ok x) = let f : List SampleRange → Result (List SampleRange × DataCursor) AuxFault = λ ys. Ok (ys, x.1) in ap f (simp append_assoc)
regroup front one (Err e) = refl

pub one_more : (end default : ℕ) (base : ℤ) (l : DataCursor) (run : Trun) (runs : List Trun) (front : List SampleRange) (ranges : List SampleRange) (next : DataCursor) (total : Result (List SampleRange × DataCursor) AuxFault)
    → run_laid end default (begun base run l) run ≡ Ok (ranges, next) → with_front front (runs_laid end default base l (run ∷ runs)) ≡ total → with_front (front ++ ranges) (runs_laid end default base next runs) ≡ total
unfolding runs_laid
one_more end default base l run runs front ranges next total h so_far = sym (regroup front ranges (runs_laid end default base next runs)) ∙ (rw h at so_far)

pub broken_off : (end default : ℕ) (base : ℤ) (l : DataCursor) (run : Trun) (runs : List Trun) (front : List SampleRange) (f : AuxFault) (total : Result (List SampleRange × DataCursor) AuxFault)
    → run_laid end default (begun base run l) run ≡ Err f → with_front front (runs_laid end default base l (run ∷ runs)) ≡ total → total ≡ Err f
unfolding runs_laid
broken_off end default base l run runs front f total h so_far = sym (rw h at so_far)

pub finished : (end default : ℕ) (base : ℤ) (l : DataCursor) (front : List SampleRange) (total : Result (List SampleRange × DataCursor) AuxFault) → with_front front (runs_laid end default base l []) ≡ total → total ≡ Ok (front, l)
unfolding runs_laid
finished end default base l front total so_far =
    let f : List SampleRange → Result (List SampleRange × DataCursor) AuxFault = λ ys. Ok (ys, l) in sym so_far ∙ ap f (append-nil front)

pub drop_item : {A : Type 0} (xs : List A) (i : ℕ) (x : A) → i < length xs → x ≡ get_or xs i x → drop i xs ≡ x ∷ drop (i + 1) xs
drop_item {A = A} xs i x lt e =
    let f : A → List A = λ y. y ∷ drop (suc i) xs in
    rw (add-one, drop-cons xs i x) (ap f (sym e))
