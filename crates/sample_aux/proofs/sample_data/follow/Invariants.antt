use Rattle.std.proofs.Common.{◌≡◌, ◌++◌, ◌-◌, ◌*◌, ◌≤◌}
use Rattle.std.specs.Prelude.{pos, ◌+ℤ◌, ◌≤ℤ◌}
use Rattle.sample_aux.specs.Auxiliary.{follow}
use Rattle.sample_aux.proofs.sample_data.follow.Given as goal

abbrev pub invariant-loop-k : goal.invariant-loop-k
invariant-loop-k l = record {
  so_far : l.ranges ++ follow l.saiz l.cursor.at l.k (l.end - l.k) ≡ follow l.saiz l.fn.start.at l.first (l.end - l.first);
  low : l.first ≤ l.k;
  near : l.cursor.at ≤ℤ (l.fn.start.at +ℤ pos (255 * (l.k - l.first)));
}
