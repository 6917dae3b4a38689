use Rattle.std.proofs.Common.{rules, refl, codes, Some}
use Rattle.prot_boxes.specs.Sbgp.{sbgp_fields, sbgp_body}
use Rattle.prot_boxes.proofs.Again.{fields_again}
use Rattle.prot_boxes.proofs.GroupsAgain.{sbgp_again}
use Rattle.prot_boxes.proofs.sbgp.put_sbgp.Goals as goal

pub returns-clause-again : goal.returns-clause-again
returns-clause-again c =
    fields_again c.put_box.result sbgp_fields (codes "sbgp") (sbgp_body c.args.what.now) c.args.out.now c.put_box.new.out (Some c.args.what.now)
    (search rules) (search rules) refl (sbgp_again c.args.what.now)
