use Rattle.std.proofs.Common.{◌≡◌, drop}
use Rattle.key_statuses.specs.Table.{grant_all}
use Rattle.key_sessions.proofs.job_plan.granted.Given as goal

-- what is left leads to all
abbrev pub invariant-loop-pair : goal.invariant-loop-pair
invariant-loop-pair l = grant_all l.granted.keys (drop l.pair-index l.pairs) ≡ grant_all l.table.keys l.pairs
