use Rattle.std.proofs.Common.{◌≡◌, drop}
use Rattle.key_statuses.specs.Statuses.{statuses_from, statuses}
use Rattle.key_statuses.proofs.report.statuses_of.Given as goal

-- what is left leads to all
abbrev pub invariant-loop-known : goal.invariant-loop-known
invariant-loop-known l = statuses_from l.list.items (drop l.known-index l.table) l.held ≡ statuses l.table l.held
