-- Options, truths and empty lists.
use Rattle.std.proofs.Common.{◌≡◌, ℕ, Bool, true, false, ◌&&◌, inl, inr, [], Some, refl, sym, ◌∙◌, true≢false, eqb}
use Rattle.std.specs.Prelude.{slice_get}
use Rattle.std.proofs.lemmas.Bool.Decides.{eqb_tells}

pub some_alone : {A : Type 0} (x y : A) → Some x ≡ Some y → x ≡ y
some_alone x y e = cc

pub nothing_there : {A : Type 0} (n : ℕ) (x : A) → slice_get [] n ≡ Some x → ⊥
nothing_there n x at = cc

pub both_true : (a b : Bool) → (a && b) ≡ true → (a ≡ true) × (b ≡ true)
both_true true b e = (refl, e)
both_true false b e = absurd cc

pub same_number : (a b : ℕ) → eqb a b ≡ true → a ≡ b
same_number a b e = elim (eqb_tells a b) [ inl p ↦ p.1 | inr p ↦ absurd (true≢false (sym e ∙ p.0)) ]
