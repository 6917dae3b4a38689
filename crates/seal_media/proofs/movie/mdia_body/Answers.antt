use Rattle.std.proofs.Common.{rules, arith, length, ap, ◌∙◌, refl}
use Rattle.std.proofs.Common.{codes}
use Rattle.prot_boxes.proofs.Again.{boxed_length}
use Rattle.seal_media.specs.Layout.{stbl_body}
use Rattle.seal_media.proofs.LengthLemmas.{HasSixteen, small, stbl_size}
use Rattle.seal_media.proofs.movie.mdia_body.Goals as goal

pub append_box-requires : goal.append_box-requires
append_box-requires c =
    let has : HasSixteen c.args.plan.now = record { kid = search rules; iv = search rules } in
    omega (arith, ap length (c.as_slice.ensures ∙ c.in_ok-stbl.ensures), stbl_size c.args.plan.now has, small c.args.plan.now.scheme)

pub append_box-requires-2 : goal.append_box-requires-2
append_box-requires-2 c =
    let has : HasSixteen c.args.plan.now = record { kid = search rules; iv = search rules } in
    let box = rw (c.new-minf.ensures, c.as_slice.ensures, c.in_ok-stbl.ensures) at c.in_ok-append_box.ensures in
    omega (arith, ap length (c.as_slice-2.ensures ∙ box), stbl_size c.args.plan.now has, small c.args.plan.now.scheme, boxed_length (codes "stbl") (stbl_body c.args.plan.now) refl)
