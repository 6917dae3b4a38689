-- A disk in memory: its content by its steps, and what its calls count.
use Rattle.std.specs.Prelude.{ℕ, ◌+◌, ◌≤◌, max, Bool, true, if◌then◌else◌, List, [], ◌∷◌, ◌++◌, length, take, Option, Some, None, Result, Ok, Err}
use Rattle.vault_disk.specs.declared.step.Step.{Step}
use Rattle.vault_disk.specs.declared.step.Step.TheVariants.{Synced}
use Rattle.vault_disk.specs.declared.calls.Calls.{Calls}
use Rattle.vault_disk.specs.declared.disk.DiskFailed.{DiskFailed}
use Rattle.vault_disk.specs.Disk.{DiskState}
use Rattle.vault_disk.specs.Calls.{no_calls, one_more, next_fails, after_call}
use Rattle.vault_disk.specs.Content.{Content, begun, replayed, wrote, MayLeave, filled}

-- the bytes that it began with, all of them on the disk, each step since, and the counts
pub record Memory : Type 0 where
  pub first : List ℕ
  pub steps : List Step
  pub spare : ℕ
  pub calls : Calls
  pub faults : ℕ

-- no call was made, and none fails
abbrev pub begun_with : List ℕ → Memory
begun_with bytes = record { first = bytes; steps = []; spare = 0; calls = no_calls; faults = 0 }

abbrev pub content : Memory → Content
content m = replayed (begun m.first) m.steps

abbrev pub memory_state : Memory → DiskState
memory_state m = record { tells = true; seen = (content m).seen; spare = m.spare; faults = m.faults; moment = length m.steps }

-- what a crash may leave now
abbrev pub left_now : Memory → List ℕ → Type 0
left_now m c = MayLeave (content m) c

-- what a crash may have left after the steps up to some moment from t on
abbrev pub left_from : Memory → ℕ → List ℕ → Type 0
left_from m t c = (k : ℕ) × (t ≤ k) × (k ≤ length m.steps) × MayLeave (replayed (begun m.first) (take k m.steps)) c

-- a call that is no `ready` is counted, and a fault where it is a named one
abbrev pub counted : Memory → Memory
counted m = record m { calls = after_call m.calls; faults = if next_fails m.calls then one_more m.faults else m.faults }

-- a write puts its bytes there, also where it fails
abbrev pub after_write : Memory → ℕ → List ℕ → ℕ → Memory
after_write m place bytes spare = record (counted m) { steps = m.steps ++ wrote place bytes; spare = spare }

-- a sync that fails does nothing
abbrev pub after_sync : Memory → ℕ → Memory
after_sync m spare = record (counted m) { steps = if next_fails m.calls then m.steps else m.steps ++ Synced ∷ []; spare = spare }

-- one content that a crash now may leave: what a read gives, or that byte at each place written since the last sync that succeeded
abbrev pub image_of : Memory → Option ℕ → List ℕ
image_of m None = (content m).seen
image_of m (Some byte) = filled byte (content m).written (content m).synced
