use Rattle.std.proofs.Common.{length, ◌-◌}
use Rattle.key_vault.proofs.Reading.{SoFar}
use Rattle.key_vault.proofs.replay.replay.Given as goal

abbrev pub invariant-frames : goal.invariant-frames
invariant-frames l = SoFar l.bytes l.gate l.records.items

abbrev pub decreases-frames : goal.decreases-frames
decreases-frames l = length l.bytes - l.gate
