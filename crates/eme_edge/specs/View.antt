-- What contracts see of a shelf in memory.
use Rattle.eme_edge.specs.declared.memory.MemoryShelf.TheInside.{Inside}
use Rattle.eme_edge.specs.Memory.{Memory}

abbrev pub memory_of : Inside → Memory
memory_of s = record { files = s.files.items; said = s.said; counts = s.counts }
