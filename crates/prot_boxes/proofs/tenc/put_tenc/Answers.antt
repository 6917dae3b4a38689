use Rattle.std.proofs.Common.{rules, refl, codes}
use Rattle.prot_boxes.specs.Tenc.{tenc_fields, tenc_body}
use Rattle.prot_boxes.proofs.Again.{fields_again}
use Rattle.prot_boxes.proofs.TencAgain.{tenc_again}
use Rattle.prot_boxes.proofs.tenc.put_tenc.Goals as goal

pub returns-clause-again : goal.returns-clause-again
returns-clause-again c =
    fields_again c.put_box.result tenc_fields (codes "tenc") (tenc_body c.args.what.now) c.args.out.now c.put_box.new.out c.args.what.now
    (search rules) (search rules) refl (tenc_again c.args.what.now)
