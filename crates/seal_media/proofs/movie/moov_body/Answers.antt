use Rattle.std.proofs.Common.{arith, length, ap, ◌∙◌}
use Rattle.seal_media.proofs.LengthLemmas.{trexes_size}
use Rattle.seal_media.proofs.movie.moov_body.Goals as goal

pub append_box-requires : goal.append_box-requires
append_box-requires c =
    omega (arith, ap length (c.as_slice-2.ensures ∙ c.in_ok-mvex.ensures), trexes_size c.args.tracks.now)
