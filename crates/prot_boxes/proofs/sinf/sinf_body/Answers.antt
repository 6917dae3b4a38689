use Rattle.std.proofs.Common.{◌∙◌, ap, length, codes, refl, arith}
use Rattle.std.proofs.lemmas.Result.{err_from_is_err_and}
use Rattle.prot_boxes.specs.Tenc.{tenc_body}
use Rattle.prot_boxes.proofs.Again.{boxed_length}
use Rattle.prot_boxes.proofs.SinfAgain.{sinf_length, schm_short, same_fault}
use Rattle.prot_boxes.proofs.sinf.sinf_body.Goals as goal

pub returns-in_err-put_tenc-clause-too_long : goal.returns-in_err-put_tenc-clause-too_long
returns-in_err-put_tenc-clause-too_long c = λ e.
    let p = err_from_is_err_and c.from_residual.result c.from_residual.ensures.1 in
    let long = c.in_err-put_tenc.ensures.too_long (same_fault _ _ _ _ p.1 p.2 e refl) in
    omega (arith, long, sinf_length c.args.what.now)

pub returns-in_err-put_schm-clause-too_long : goal.returns-in_err-put_schm-clause-too_long
returns-in_err-put_schm-clause-too_long c = λ e.
    let p = err_from_is_err_and c.from_residual-in_err-put_schm.result c.from_residual-in_err-put_schm.ensures.1 in
    let long = c.in_err-put_schm.ensures.too_long (same_fault _ _ _ _ p.1 p.2 e refl) in
    omega (arith, long, schm_short c.scheme_code-kind.result c.args.what.now.scheme c.scheme_code-kind.ensures)

pub returns-in_err-put_box-2-clause-too_long : goal.returns-in_err-put_box-2-clause-too_long
returns-in_err-put_box-2-clause-too_long c = λ e.
    let p = err_from_is_err_and c.from_residual-in_err-put_box-2.result c.from_residual-in_err-put_box-2.ensures.1 in
    let long = c.in_err-put_box-2.ensures.too_long.0 (same_fault _ _ _ _ p.1 p.2 e refl) in
    let info = rw c.new-info.ensures at c.in_ok-put_tenc.ensures.ok in
    omega (arith, long, ap length (c.as_slice.ensures ∙ info), boxed_length (codes "tenc") (tenc_body c.args.what.now.tenc) refl, sinf_length c.args.what.now)
