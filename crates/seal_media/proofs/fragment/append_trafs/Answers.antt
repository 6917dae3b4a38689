use Rattle.std.proofs.Common.{arith, length, ap, ◌∙◌, ◌≤◌}
use Rattle.std.proofs.lemmas.List.Sums.{get_or-le-sum_by}
use Rattle.std.specs.List.{sum_by}
use Rattle.seal_media.specs.Lengths.{traf_length}
use Rattle.seal_media.proofs.LengthLemmas.{traf_at_size}
use Rattle.seal_media.proofs.fragment.append_trafs.Goals as goal

pub append_box-requires : goal.append_box-requires
append_box-requires c =
    let part = c.part-item.result in
    let f = traf_length c.args.plan.now.scheme in
    let one : f part ≤ sum_by f c.args.parts.now = rw c.part-item.is (get_or-le-sum_by f c.args.parts.now c.loop-part.part-index part c.loop-part-test.true) in
    omega (arith, ap length (c.as_slice.ensures ∙ c.in_ok-traf.ensures), traf_at_size c.args.plan.now c.loop-part.number c.loop-part.offset part.track part.samples, one, c.requires.boxes)
