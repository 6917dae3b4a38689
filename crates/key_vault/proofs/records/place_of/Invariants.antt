use Rattle.std.proofs.Common.{◌≡◌, None, take}
use Rattle.key_vault.specs.Records.{record_of}
use Rattle.key_vault.proofs.records.place_of.Given as goal

abbrev pub invariant-loop-i : goal.invariant-loop-i
invariant-loop-i l = record_of l.label (take l.i l.records) ≡ None
