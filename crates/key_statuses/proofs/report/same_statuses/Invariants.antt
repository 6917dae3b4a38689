use Rattle.std.proofs.Common.{◌≡◌, drop}
use Rattle.key_statuses.specs.Statuses.{same_statuses}
use Rattle.key_statuses.proofs.report.same_statuses.Given as goal

-- what is left answers for all
abbrev pub invariant-loop-i : goal.invariant-loop-i
invariant-loop-i l = same_statuses (drop l.i l.a) (drop l.i l.b) ≡ same_statuses l.a l.b
