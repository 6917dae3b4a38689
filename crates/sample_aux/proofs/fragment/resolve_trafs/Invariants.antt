use Rattle.std.proofs.Common.{◌≡◌, ◌+◌, ◌*◌, ◌^◌, drop, []}
use Rattle.sample_aux.specs.Near.{IsNear}
use Rattle.sample_aux.specs.Resolve.{all_joined, trafs_resolved}
use Rattle.sample_aux.proofs.fragment.resolve_trafs.Given as goal

abbrev pub invariant-loop-traf : goal.invariant-loop-traf
invariant-loop-traf l = record {
  so_far : all_joined l.parts.items (trafs_resolved l.file l.known l.start l.cursor (drop l.traf-index l.trafs)) ≡ all_joined [] (trafs_resolved l.file l.known l.start l.fn.begin l.fn.trafs);
  near : IsNear (2 ^ 64 + l.traf-index * 2 ^ 32) l.cursor.at;
}
