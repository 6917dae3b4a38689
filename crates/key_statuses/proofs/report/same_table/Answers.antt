use Rattle.std.proofs.Common.{sym}
use Rattle.key_statuses.proofs.Differ.{tables_differ}
use Rattle.key_statuses.proofs.report.same_table.Goals as goal

pub returns-then-a-b : goal.returns-then-a-b
returns-then-a-b c = sym (tables_differ c.args.a.now c.args.b.now c.if-a-b.true)
