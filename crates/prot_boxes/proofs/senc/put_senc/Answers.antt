use Rattle.std.proofs.Common.{rules, refl, codes}
use Rattle.prot_boxes.specs.Senc.{senc_fields, senc_body, iv_lengths}
use Rattle.prot_boxes.proofs.Again.{fields_again}
use Rattle.prot_boxes.proofs.SencAgain.{senc_again}
use Rattle.prot_boxes.proofs.senc.put_senc.Goals as goal

pub returns-clause-again : goal.returns-clause-again
returns-clause-again c =
    fields_again c.put_box.result (senc_fields (iv_lengths c.args.what.now)) (codes "senc") (senc_body c.args.what.now) c.args.out.now c.put_box.new.out c.args.what.now
    (search rules) (search rules) refl (senc_again c.args.what.now)
