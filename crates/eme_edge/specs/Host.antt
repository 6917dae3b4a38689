-- A shelf over real files tells its counts alone.
use Rattle.std.specs.Prelude.{ℕ, false, [], None}
use Rattle.eme_edge.specs.Shelf.{ShelfState}

abbrev pub host_state : ℕ → ℕ → ShelfState
host_state reads writes = record {
  tells_files = false;
  file = λ name. None;
  tells_said = false;
  said = [];
  read_faults = reads;
  write_faults = writes;
}
