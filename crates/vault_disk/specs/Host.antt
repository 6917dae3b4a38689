-- A disk that is a real file tells its faults alone. Its writes and syncs take no memory of this process.
use Rattle.std.specs.Prelude.{ℕ, ◌≡◌, ◌≤◌, ◌^◌, false, [], Result, OnErr}
use Rattle.vault_disk.specs.declared.disk.DiskFailed.{DiskFailed}
use Rattle.vault_disk.specs.Disk.{DiskState, Rose}

abbrev pub host_state : ℕ → DiskState
host_state faults = record { tells = false; seen = []; spare = 2 ^ 64; faults = faults; moment = 0 }

-- the count never falls, and rises at a failure
pub record Counts {T : Type 0} (old new : ℕ) (result : Result T DiskFailed) : Type 0 where
  pub later : old ≤ new
  pub failed : OnErr result (Rose old new)
