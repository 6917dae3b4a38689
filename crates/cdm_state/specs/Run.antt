-- What contracts see of a core: the ids of its tracks, in order, and its history.
use Rattle.std.specs.Prelude.{ℕ, List, [], ◌∷◌, ◌++◌}
use Rattle.eme_types.specs.declared.entry.Entry.{Entry}

-- the track ids and the entries
pub record Run : Type 0 where
  pub tracks : List ℕ
  pub history : List Entry

-- one more entry
abbrev pub with_entry : Run → Entry → Run
with_entry r e = record r { history = r.history ++ e ∷ [] }
