use Rattle.std.proofs.Common.{◌≡◌, fold, drop}
use Rattle.license_desk.specs.Licence.{earlier, earliest_end}
use Rattle.license_desk.proofs.licence.earliest_end.Given as goal

abbrev pub invariant-loop-row : goal.invariant-loop-row
invariant-loop-row l = earliest_end l.rows ≡ fold (λ last row. earlier last row.1.expires) l.last (drop l.row-index l.rows)
