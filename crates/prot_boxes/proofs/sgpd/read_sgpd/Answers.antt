use Rattle.prot_boxes.proofs.Few.{few_entries}
use Rattle.prot_boxes.proofs.sgpd.read_sgpd.Goals as goal

pub returns-in-Ok-clause-bounded : goal.returns-in-Ok-clause-bounded
returns-in-Ok-clause-bounded c = few_entries c.args.at.now.body.now c.in-Ok.sgpd c.in-Ok.field-0-1.now c.in-Ok.ensures
