use Rattle.std.proofs.Common.{◌≡◌, fold, max, drop}
use Rattle.license_desk.specs.Licence.{latest_start}
use Rattle.license_desk.proofs.licence.latest_start.Given as goal

abbrev pub invariant-loop-row : goal.invariant-loop-row
invariant-loop-row l = latest_start l.rows ≡ fold (λ latest row. max latest row.1.from) l.latest (drop l.row-index l.rows)
