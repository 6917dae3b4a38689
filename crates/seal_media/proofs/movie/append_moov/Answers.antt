use Rattle.std.proofs.Common.{rules, arith, length, ap, ◌∙◌}
use Rattle.seal_media.proofs.LengthLemmas.{HasSixteen, moov_fits}
use Rattle.seal_media.proofs.movie.append_moov.Goals as goal

pub append_box-requires : goal.append_box-requires
append_box-requires c =
    let has : HasSixteen c.args.plan.now = record { kid = search rules; iv = search rules } in
    omega (arith, ap length (c.as_slice.ensures ∙ c.in_ok-body.ensures), moov_fits c.args.plan.now c.args.tracks.now has c.requires)
