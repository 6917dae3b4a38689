use Rattle.std.proofs.Common.{◌∙◌}
use Rattle.license_desk.proofs.RowLemmas.{found_small}
use Rattle.license_desk.proofs.desk.KeyDesk.get.Goals as goal

pub returns-clause-moments : goal.returns-clause-moments
returns-clause-moments c = found_small c.self.inside.rows.entries c.args.kid.now c.copied.result (c.copied.ensures ∙ c.get.ensures.value) c.self.invariant.moments
