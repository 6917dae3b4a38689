use Rattle.std.proofs.Common.{rules, arith, length, ap, get_or, ◌∙◌}
use Rattle.seal_media.proofs.LengthLemmas.{HasSixteen, small, trak_size}
use Rattle.seal_media.proofs.movie.append_traks.Goals as goal

pub append_box-requires : goal.append_box-requires
append_box-requires c =
    let has : HasSixteen c.args.plan.now = record { kid = search rules; iv = search rules } in
    omega (arith, ap length (c.as_slice.ensures ∙ c.in_ok-trak.ensures), trak_size c.args.plan.now (get_or c.args.tracks.now c.loop-id.id-index 0) has, small c.args.plan.now.scheme)
