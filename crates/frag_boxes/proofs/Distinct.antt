-- Numbers of which none stands twice, and one more.
use Rattle.std.proofs.Common.{◌≡◌, ℕ, List, [], ◌∷◌, ◌++◌, true, false, refl, sym}
use Rattle.std.specs.Prelude.{◌==◌, not}
use Rattle.std.proofs.lemmas.Bool.{and_parts, or_parts, not-true, eqb-false, ne_eqb}
use Rattle.std.proofs.lemmas.List.Folds.{list_any-append}
use Rattle.eme_types.specs.Fed.{is_among, are_distinct}

pub distinct_end : (ids : List ℕ) (id : ℕ) → are_distinct ids ≡ true → is_among ids id ≡ false → are_distinct (ids ++ id ∷ []) ≡ true
distinct_end [] id e n = refl
distinct_end (one ∷ ids) id e n =
    let both = and_parts (not (is_among ids one)) (are_distinct ids) e in
    let new = or_parts (one == id) (is_among ids id) n in
    let other : (id == one) ≡ false = ne_eqb id one (λ h. eqb-false one id new.0 (sym h)) in
    rw (list_any-append (λ x. x == one) ids (id ∷ []), not-true (is_among ids one) both.0, other, distinct_end ids id both.1 new.1) refl
