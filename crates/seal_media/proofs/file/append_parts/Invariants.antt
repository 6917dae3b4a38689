use Rattle.std.proofs.Common.{◌≡◌, ◌+◌, take}
use Rattle.std.specs.List.{sum_by}
use Rattle.eme_types.specs.Fed.{part_samples}
use Rattle.seal_media.specs.Views.{HasParts}
use Rattle.seal_media.proofs.file.append_parts.Given as goal

abbrev pub invariant-loop-part : goal.invariant-loop-part
invariant-loop-part l = record {
  number : l.number ≡ l.fn.number + sum_by part_samples (take l.part-index l.parts);
  done : HasParts l.plan l.fn.number (take l.part-index l.parts) l.initial.out.items l.out.items;
}
