use Rattle.std.proofs.Common.{rules, refl, codes}
use Rattle.prot_boxes.specs.Schm.{schm_fields, schm_body}
use Rattle.prot_boxes.proofs.Again.{fields_again}
use Rattle.prot_boxes.proofs.SchmAgain.{schm_again}
use Rattle.prot_boxes.proofs.schm.put_schm.Goals as goal

pub returns-clause-again : goal.returns-clause-again
returns-clause-again c =
    fields_again c.put_box.result schm_fields (codes "schm") (schm_body c.args.what.now) c.args.out.now c.put_box.new.out c.args.what.now
    (search rules) (search rules) refl (schm_again c.args.what.now)
