use Rattle.std.proofs.Common.{rules, refl, codes}
use Rattle.prot_boxes.specs.Saiz.{saiz_fields, saiz_body}
use Rattle.prot_boxes.proofs.Again.{fields_again}
use Rattle.prot_boxes.proofs.AuxAgain.{saiz_again}
use Rattle.prot_boxes.proofs.saiz.put_saiz.Goals as goal

pub returns-clause-again : goal.returns-clause-again
returns-clause-again c =
    fields_again c.put_box.result saiz_fields (codes "saiz") (saiz_body c.args.what.now) c.args.out.now c.put_box.new.out c.args.what.now
    (search rules) (search rules) refl (saiz_again c.args.what.now)
