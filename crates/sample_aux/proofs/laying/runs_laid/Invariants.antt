use Rattle.std.proofs.Common.{◌≡◌, drop}
use Rattle.sample_aux.specs.Near.{EndsNear}
use Rattle.sample_aux.specs.Laying.{runs_laid}
use Rattle.sample_aux.proofs.Runs.{with_front}
use Rattle.sample_aux.proofs.laying.runs_laid.Given as goal

abbrev pub invariant-loop-run : goal.invariant-loop-run
invariant-loop-run l = record {
  so_far : with_front l.all (runs_laid l.end l.default l.base.at l.cursor (drop l.run-index l.runs)) ≡ runs_laid l.end l.default l.base.at l.fn.base l.fn.runs;
  near : EndsNear l.base.at l.cursor.at;
}
