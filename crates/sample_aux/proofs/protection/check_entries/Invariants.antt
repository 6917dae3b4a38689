use Rattle.std.proofs.Common.{◌≡◌, drop}
use Rattle.sample_aux.specs.InOrder.{each_passes}
use Rattle.sample_aux.specs.Checked.{part_passes}
use Rattle.sample_aux.proofs.protection.check_entries.Given as goal

abbrev pub invariant-loop-told : goal.invariant-loop-told
invariant-loop-told l = each_passes part_passes (drop l.told-index l.entries) ≡ each_passes part_passes l.fn.entries
