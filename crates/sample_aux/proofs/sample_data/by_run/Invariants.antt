use Rattle.std.proofs.Common.{◌≡◌, ◌++◌, ◌*◌, ◌^◌, ◌≤◌, drop}
use Rattle.sample_aux.specs.Auxiliary.{by_run}
use Rattle.sample_aux.proofs.sample_data.by_run.Given as goal

abbrev pub invariant-loop-i : goal.invariant-loop-i
invariant-loop-i l = record {
  so_far : l.all ++ by_run l.saiz l.base.at l.offsets l.i l.first (drop l.i l.runs) ≡ by_run l.saiz l.base.at l.offsets 0 0 l.runs;
  few : l.first ≤ l.i * 2 ^ 32;
}
