-- A shelf in memory: what it holds, and what its calls count.
use Rattle.std.specs.Prelude.{ℕ, ◌&&◌, ◌||◌, Bool, true, if◌then◌else◌, List, [], is_some, is_none, Result, Ok, Err}
use Rattle.eme_edge.specs.declared.files.Saved.{Saved}
use Rattle.eme_edge.specs.declared.calls.Counts.{Counts}
use Rattle.eme_edge.specs.declared.shelf.ShelfFault.{ShelfFault}
use Rattle.eme_edge.specs.declared.shelf.ShelfFault.TheVariants.{Failed, OutOfMemory}
use Rattle.eme_edge.specs.Shelf.{ShelfState}
use Rattle.eme_edge.specs.Files.{file_in}
use Rattle.eme_edge.specs.Calls.{no_counts, one_more, next_fails, after_call}

pub record Memory : Type 0 where
  pub files : List Saved
  pub said : List ℕ
  pub counts : Counts

-- no file, no byte said, both counts of faults 0
abbrev pub empty_memory : Memory
empty_memory = record { files = []; said = []; counts = no_counts }

abbrev pub memory_state : Memory → ShelfState
memory_state m = record {
  tells_files = true;
  file = file_in m.files;
  tells_said = true;
  said = m.said;
  read_faults = m.counts.read_faults;
  write_faults = m.counts.write_faults;
}

-- the next read of that file fails: there is no such file, or the call is a named one
abbrev pub read_fails : Memory → List ℕ → Bool
read_fails m name = is_none (file_in m.files name) || next_fails m.counts.reads

-- a read of a missing file is no fault
abbrev pub counts_fault : Memory → List ℕ → Bool
counts_fault m name = is_some (file_in m.files name) && next_fails m.counts.reads

abbrev pub after_read : Memory → List ℕ → Counts
after_read m name = record m.counts { reads = after_call m.counts.reads; read_faults = if counts_fault m name then one_more m.counts.read_faults else m.counts.read_faults }

abbrev pub after_start : Counts → Result Unit ShelfFault → Counts
after_start c (Ok u) = record c { starts = after_call c.starts }
after_start c (Err Failed) = record c { starts = after_call c.starts; write_faults = one_more c.write_faults }
after_start c (Err OutOfMemory) = c

abbrev pub after_append : Counts → Result Unit ShelfFault → Counts
after_append c (Ok u) = record c { appends = after_call c.appends }
after_append c (Err Failed) = record c { appends = after_call c.appends; write_faults = one_more c.write_faults }
after_append c (Err OutOfMemory) = c

abbrev pub after_say : Counts → Result Unit ShelfFault → Counts
after_say c (Ok u) = record c { says = after_call c.says }
after_say c (Err Failed) = record c { says = after_call c.says; write_faults = one_more c.write_faults }
after_say c (Err OutOfMemory) = c
