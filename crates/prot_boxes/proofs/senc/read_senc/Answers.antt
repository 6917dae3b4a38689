use Rattle.prot_boxes.proofs.Few.{few_subs}
use Rattle.prot_boxes.proofs.senc.read_senc.Goals as goal

pub returns-in-Ok-clause-counted : goal.returns-in-Ok-clause-counted
returns-in-Ok-clause-counted c = rw c.as_slice.ensures at ((few_subs c.as_slice.result.now c.args.at.now.body.now c.in-Ok.senc c.in-Ok.field-0-1.now c.in-Ok.ensures).1)

pub returns-in-Ok-clause-bounded : goal.returns-in-Ok-clause-bounded
returns-in-Ok-clause-bounded c = (few_subs c.as_slice.result.now c.args.at.now.body.now c.in-Ok.senc c.in-Ok.field-0-1.now c.in-Ok.ensures).0
