use Rattle.std.proofs.Common.{arith, length, ◌+◌, ap, ◌∙◌}
use Rattle.seal_media.proofs.LengthLemmas.{trafs_at_size}
use Rattle.seal_media.proofs.fragment.moof_of.Goals as goal

pub append_box-requires : goal.append_box-requires
append_box-requires c =
    let trafs = rw (c.new-body.ensures) at c.in_ok-append_trafs.ensures in
    let offset = c.moof_length-offset.result + 8 in
    omega (arith, ap length (c.as_slice.ensures ∙ trafs), trafs_at_size c.args.plan.now c.args.number offset c.args.parts.now, c.requires.length)
