use Rattle.prot_boxes.proofs.Few.{few_offsets}
use Rattle.prot_boxes.proofs.saio.read_saio.Goals as goal

pub returns-in-Ok-clause-bounded : goal.returns-in-Ok-clause-bounded
returns-in-Ok-clause-bounded c = few_offsets c.args.at.now.body.now c.in-Ok.saio c.in-Ok.field-0-1.now c.in-Ok.ensures
