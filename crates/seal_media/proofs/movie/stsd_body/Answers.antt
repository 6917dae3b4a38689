use Rattle.std.proofs.Common.{rules, arith, length, ap, ◌∙◌}
use Rattle.seal_media.proofs.LengthLemmas.{HasSixteen, small, encv_size}
use Rattle.seal_media.proofs.movie.stsd_body.Goals as goal

pub append_box-requires : goal.append_box-requires
append_box-requires c =
    let has : HasSixteen c.args.plan.now = record { kid = search rules; iv = search rules } in
    omega (arith, ap length (c.as_slice.ensures ∙ c.in_ok-entry.ensures), encv_size c.args.plan.now has, small c.args.plan.now.scheme)
