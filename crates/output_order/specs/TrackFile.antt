-- The file of a track.
use Rattle.std.specs.Prelude.{ℕ, List}
use Rattle.std.specs.List.{concat}
use Rattle.eme_types.specs.declared.entry.Entry.{Entry}
use Rattle.cdm_state.specs.Output.{out}

-- the samples that are out on track t, joined
unfoldable pub file_of : List ℕ → List Entry → ℕ → List ℕ
file_of ids h t = concat (out ids h t)
