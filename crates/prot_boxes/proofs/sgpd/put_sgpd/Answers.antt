use Rattle.std.proofs.Common.{rules, refl, codes, Some}
use Rattle.prot_boxes.specs.Sgpd.{sgpd_fields, sgpd_body}
use Rattle.prot_boxes.proofs.Again.{fields_again}
use Rattle.prot_boxes.proofs.GroupsAgain.{sgpd_again}
use Rattle.prot_boxes.proofs.sgpd.put_sgpd.Goals as goal

pub returns-clause-again : goal.returns-clause-again
returns-clause-again c =
    fields_again c.put_box.result sgpd_fields (codes "sgpd") (sgpd_body c.args.what.now) c.args.out.now c.put_box.new.out (Some c.args.what.now)
    (search rules) (search rules) refl (sgpd_again c.args.what.now)
