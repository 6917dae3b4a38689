use Rattle.std.proofs.Common.{arith, length, ap, get_or, ◌∙◌}
use Rattle.seal_media.proofs.LengthLemmas.{trex_size}
use Rattle.seal_media.proofs.movie.mvex_body.Goals as goal

pub append_box-requires : goal.append_box-requires
append_box-requires c =
    omega (arith, ap length (c.as_slice.ensures ∙ c.in_ok-trex.ensures), trex_size (get_or c.args.tracks.now c.loop-id.id-index 0))
