-- Rows of a table.
use Rattle.std.proofs.Common.{◌≡◌, ℕ, Bool, true, false, List, [], ◌∷◌, ◌++◌, Option, Some, None, IfSome, cond, is_some, refl, IsTrue}
use Rattle.std.specs.Prelude.{bytes_eq}
use Rattle.std.specs.List.{list_all}
use Rattle.std.proofs.lemmas.Bool.{and_parts, and_from}
use Rattle.license_desk.specs.declared.terms.Terms.{Terms}
use Rattle.license_desk.specs.Rows.{Row, terms_of, has_moments}

-- ---- what the rows say of a key id keeps what each row keeps

small_of : (test : Bool) (terms : Terms) (other : Option Terms) → has_moments terms ≡ true → IfSome other (λ t. IsTrue (has_moments t)) → IfSome (cond test (Some terms) other) (λ t. IsTrue (has_moments t))
small_of true terms other here rest = here
small_of false terms other here rest = rest

terms_small : (rows : List Row) (kid : List ℕ) → list_all (λ row. has_moments row.1) rows ≡ true → IfSome (terms_of rows kid) (λ t. IsTrue (has_moments t))
terms_small [] kid small = tt
terms_small (row ∷ rows) kid small = let parts = and_parts _ _ small in small_of (bytes_eq kid row.0) row.1 (terms_of rows kid) parts.0 (terms_small rows kid parts.1)

pub found_small : (rows : List Row) (kid : List ℕ) (found : Option Terms) → found ≡ terms_of rows kid → list_all (λ row. has_moments row.1) rows ≡ true → IfSome found (λ t. IsTrue (has_moments t))
found_small rows kid found is small = rw is (terms_small rows kid small)

-- ---- a further row

small_push : (rows : List Row) (row : Row) → list_all (λ r. has_moments r.1) rows ≡ true → has_moments row.1 ≡ true → list_all (λ r. has_moments r.1) (rows ++ row ∷ []) ≡ true
small_push [] row small here = and_from _ _ here refl
small_push (r ∷ rows) row small here = let parts = and_parts _ _ small in and_from _ _ parts.0 (small_push rows row parts.1 here)

pub rows_pushed : (rows : List Row) (kid : List ℕ) (terms : Terms) (longer : List Row) → longer ≡ rows ++ (kid, terms) ∷ [] → list_all (λ r. has_moments r.1) rows ≡ true → has_moments terms ≡ true
    → list_all (λ r. has_moments r.1) longer ≡ true
rows_pushed rows kid terms longer is small here = rw is (small_push rows (kid, terms) small here)

none_of : {X : Type 0} (o : Option X) → is_some o ≡ false → o ≡ None
none_of None e = refl
none_of (Some x) e = absurd (cc)

pub is_absent : (rows : List Row) (kid : List ℕ) → is_some (terms_of rows kid) ≡ false → terms_of rows kid ≡ None
is_absent rows kid e = none_of (terms_of rows kid) e
