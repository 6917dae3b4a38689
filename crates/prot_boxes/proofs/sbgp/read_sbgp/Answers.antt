use Rattle.prot_boxes.proofs.Few.{few_items}
use Rattle.prot_boxes.proofs.sbgp.read_sbgp.Goals as goal

pub returns-in-Ok-clause-bounded : goal.returns-in-Ok-clause-bounded
returns-in-Ok-clause-bounded c = few_items c.args.at.now.body.now c.in-Ok.sbgp c.in-Ok.field-0-1.now c.in-Ok.ensures
