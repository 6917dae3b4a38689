use Rattle.std.proofs.Common.{◌≡◌, map, take}
use Rattle.sample_aux.specs.Checked.{entry_protection}
use Rattle.sample_aux.proofs.protection.read_entries.Given as goal

abbrev pub invariant-loop-entry : goal.invariant-loop-entry
invariant-loop-entry l = l.told ≡ map (λ entry. entry_protection l.file entry) (take l.entry-index l.entries)
