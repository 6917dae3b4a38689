use Rattle.std.proofs.Common.{◌≤◌, length}
use Rattle.vault_disk.proofs.locked.fill.Given as goal

abbrev pub invariant-reads : goal.invariant-reads
invariant-reads g l = l.filled ≤ length l.buf
