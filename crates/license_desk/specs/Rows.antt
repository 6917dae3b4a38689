-- The rows of a table: key ids, each with its key and the moments between which the key may be used.
use Rattle.std.specs.Prelude.{ℕ, ◌&&◌, nat_le, Bool, true, List, Option, Some, None, is_some, bytes_eq, IsTrue}
use Rattle.std.specs.List.{list_all, IsDistinct}
use Rattle.std.specs.Map.{keys_of, lookup}
use Rattle.eme_types.specs.declared.limits.TheConstants.{MAX_MOMENT}
use Rattle.license_desk.specs.declared.terms.Terms.{Terms}

-- a row: a key id, and what the table says of it
abbrev pub Row : Type 0
Row = List ℕ × Terms

-- what the rows say of a key id
abbrev pub terms_of : List Row → List ℕ → Option Terms
terms_of rows kid = lookup (bytes_eq kid) rows

-- the rows have the key id
abbrev pub has_kid : List Row → List ℕ → Bool
has_kid rows kid = is_some (terms_of rows kid)

-- an end is a moment, at most 2^53, or none
abbrev pub is_end : Option ℕ → Bool
is_end None = true
is_end (Some moment) = nat_le moment MAX_MOMENT

-- a start is a moment, and the end is one or none
abbrev pub has_moments : Terms → Bool
has_moments terms = nat_le terms.from MAX_MOMENT && is_end terms.expires

-- what the rows of every table keep: no key id stands twice, and no moment is above 2^53
pub record AreRows (rows : List Row) : Type 0 where
  pub distinct : IsDistinct bytes_eq (keys_of rows)
  pub moments : IsTrue (list_all (λ row. has_moments row.1) rows)
