-- What contracts see of a disk in memory, and what it keeps.
use Rattle.std.specs.Prelude.{ℕ, ◌≡◌, ◌+◌, ◌≤◌, vec_len, vec_capacity}
use Rattle.vault_disk.specs.declared.memory.MemoryDisk.TheInside.{Inside}
use Rattle.vault_disk.specs.Content.{begun, replayed}
use Rattle.vault_disk.specs.Memory.{Memory}

abbrev pub memory_of : Inside → Memory
memory_of d = record { first = d.first; steps = d.steps.items; spare = d.spare; calls = d.calls; faults = d.faults }

-- the bytes kept are those after the steps, and there is room for as many more as are spare
abbrev pub IsKept : Inside → Type 0
IsKept d = (d.content.items ≡ (replayed (begun d.first) d.steps.items).seen)
    × (vec_len d.steps + d.spare ≤ vec_capacity d.steps)
    × (vec_len d.content + d.spare ≤ vec_capacity d.content)
