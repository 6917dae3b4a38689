use Rattle.std.proofs.Common.{rules, refl, codes}
use Rattle.prot_boxes.specs.Sinf.{sinf_at, sinf_body}
use Rattle.prot_boxes.proofs.Again.{box_again}
use Rattle.prot_boxes.proofs.SinfAgain.{sinf_again}
use Rattle.prot_boxes.proofs.sinf.put_sinf.Goals as goal

pub returns-clause-again : goal.returns-clause-again
returns-clause-again c =
    box_again c.put_box.result sinf_at (codes "sinf") (sinf_body c.args.what.now) c.args.out.now c.put_box.new.out c.args.what.now
    (search rules) (search rules) refl (sinf_again c.args.what.now)
