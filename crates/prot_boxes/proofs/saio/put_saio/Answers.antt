use Rattle.std.proofs.Common.{rules, refl, codes}
use Rattle.prot_boxes.specs.Saio.{saio_fields, saio_body}
use Rattle.prot_boxes.proofs.Again.{fields_again}
use Rattle.prot_boxes.proofs.AuxAgain.{saio_again}
use Rattle.prot_boxes.proofs.saio.put_saio.Goals as goal

pub returns-clause-again : goal.returns-clause-again
returns-clause-again c =
    fields_again c.put_box.result saio_fields (codes "saio") (saio_body c.args.what.now) c.args.out.now c.put_box.new.out c.args.what.now
    (search rules) (search rules) refl (saio_again c.args.what.now)
