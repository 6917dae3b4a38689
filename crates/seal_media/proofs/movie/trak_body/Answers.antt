use Rattle.std.proofs.Common.{rules, arith, length, ap, ◌∙◌}
use Rattle.seal_media.proofs.LengthLemmas.{HasSixteen, small, mdia_size, tkhd_size}
use Rattle.seal_media.proofs.movie.trak_body.Goals as goal

pub append_box-requires : goal.append_box-requires
append_box-requires c =
    omega (arith, ap length (c.as_slice.ensures ∙ c.in_ok-tkhd.ensures), tkhd_size c.args.id)

pub append_box-requires-2 : goal.append_box-requires-2
append_box-requires-2 c =
    let has : HasSixteen c.args.plan.now = record { kid = search rules; iv = search rules } in
    omega (arith, ap length c.requires, mdia_size c.args.plan.now has, small c.args.plan.now.scheme)
