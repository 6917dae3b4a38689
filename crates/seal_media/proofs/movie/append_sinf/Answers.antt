use Rattle.std.proofs.Common.{rules, arith, ap, ◌∙◌, Err}
use Rattle.seal_media.proofs.LengthLemmas.{HasSixteen, small, sinf_size}
use Rattle.seal_media.proofs.movie.append_sinf.Goals as goal

pub unreachable-requires : goal.unreachable-requires
unreachable-requires c =
    let has : HasSixteen c.args.plan.now = record { kid = search rules; iv = search rules } in
    let long = rw c.tenc_of.ensures at c.put_sinf.ensures.too_long (c.in-Err-TooLong.is ∙ ap Err c.in-Err-TooLong.field-0-is) in
    omega (arith, long, sinf_size c.args.plan.now has, small c.args.plan.now.scheme)
