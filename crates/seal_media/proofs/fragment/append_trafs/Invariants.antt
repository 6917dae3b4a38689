use Rattle.std.proofs.Common.{◌≡◌, ◌+◌, ◌++◌, drop}
use Rattle.std.specs.List.{sum_by}
use Rattle.eme_types.specs.Fed.{part_samples, part_bytes}
use Rattle.seal_media.specs.Views.{trafs_at}
use Rattle.seal_media.proofs.fragment.append_trafs.Given as goal

abbrev pub invariant-loop-part : goal.invariant-loop-part
invariant-loop-part l = record {
  number : l.number + sum_by part_samples (drop l.part-index l.parts) ≡ l.fn.number + sum_by part_samples l.fn.parts;
  offset : l.offset + sum_by part_bytes (drop l.part-index l.parts) ≡ l.fn.offset + sum_by part_bytes l.fn.parts;
  out : l.out ++ trafs_at l.plan l.number l.offset (drop l.part-index l.parts) ≡ l.fn.out ++ trafs_at l.plan l.fn.number l.fn.offset l.fn.parts;
}
