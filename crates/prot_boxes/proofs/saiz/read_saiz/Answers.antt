use Rattle.prot_boxes.proofs.Few.{few_sizes}
use Rattle.prot_boxes.proofs.saiz.read_saiz.Goals as goal

pub returns-in-Ok-clause-bounded : goal.returns-in-Ok-clause-bounded
returns-in-Ok-clause-bounded c = few_sizes c.args.at.now.body.now c.in-Ok.saiz c.in-Ok.field-0-1.now c.in-Ok.ensures
