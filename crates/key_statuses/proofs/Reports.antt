-- Where a status goes in a sorted list.
use Rattle.std.proofs.Common.{zero, suc, ◌≡◌, ℕ, ◌+◌, ◌<◌, true, false, List, [], ◌∷◌, length, get_or, take, refl, ap, arith, add-one}
use Rattle.std.specs.List.{insert}
use Rattle.eme_types.specs.declared.kid.Status.{Status}
use Rattle.key_statuses.specs.Statuses.{comes_before, insert_status}
use Rattle.key_statuses.specs.Loops.{NoneAfter}

pub insert_at : (list : List (List ℕ × Status)) (kid : List ℕ) (i : ℕ) (d : List ℕ × Status) → i < length list → NoneAfter (take i list) kid → comes_before kid (get_or list i d).0 ≡ true → (status : Status) → insert list i (kid, status) ≡ insert_status (kid, status) list
insert_at [] kid i d lt none is status = absurd (omega arith)
insert_at (t ∷ ts) kid zero d lt none is status = rw is refl
insert_at (t ∷ ts) kid (suc i) d lt none is status = rw none.0 (ap (λ ys. t ∷ ys) (insert_at ts kid i d (omega arith) none.1 is status))

pub insert_last : (list : List (List ℕ × Status)) (kid : List ℕ) → NoneAfter list kid → (status : Status) → insert list (length list) (kid, status) ≡ insert_status (kid, status) list
insert_last [] kid none status = refl
insert_last (t ∷ ts) kid none status = rw none.0 (ap (λ ys. t ∷ ys) (insert_last ts kid none.1 status))

pub none_more : (list : List (List ℕ × Status)) (kid : List ℕ) (i : ℕ) (d : List ℕ × Status) → i < length list → NoneAfter (take i list) kid → comes_before kid (get_or list i d).0 ≡ false → NoneAfter (take (i + 1) list) kid
none_more list kid i d lt none is = rw add-one (go list i lt none is) where
  go : (list : List (List ℕ × Status)) (i : ℕ) → i < length list → NoneAfter (take i list) kid → comes_before kid (get_or list i d).0 ≡ false → NoneAfter (take (suc i) list) kid
  go [] i lt none is = tt
  go (t ∷ ts) zero lt none is = (is, tt)
  go (t ∷ ts) (suc i) lt none is = (none.0, go ts i (omega arith) none.1 is)
