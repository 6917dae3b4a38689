use Rattle.std.proofs.Common.{◌≡◌, ◌≤◌, take, count_by}
use Rattle.std.specs.List.{sum_by}
use Rattle.cdm_state.specs.Settlements.{calls_in, effects_in}
use Rattle.output_order.specs.Summary.{resolves, rejects}
use Rattle.output_order.proofs.summary.count_promises.Given as goal

-- the counts of the entries so far
abbrev pub invariant-loop-i : goal.invariant-loop-i
invariant-loop-i l = record {
  made : l.made ≡ calls_in (take l.i l.history);
  few : l.made ≤ l.i;
  resolved : l.resolved ≡ sum_by (count_by resolves) (take l.i (effects_in l.cdm.tracks l.cdm.history));
  rejected : l.rejected ≡ sum_by (count_by rejects) (take l.i (effects_in l.cdm.tracks l.cdm.history));
}
