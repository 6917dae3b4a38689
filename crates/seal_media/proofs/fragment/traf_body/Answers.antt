use Rattle.std.proofs.Common.{arith, length, map, ap, ◌∙◌}
use Rattle.std.proofs.lemmas.List.{length-map}
use Rattle.eme_types.specs.Fed.{sample_bytes}
use Rattle.seal_media.specs.Views.{items_from}
use Rattle.seal_media.proofs.LengthLemmas.{tfhd_size, trun_size, senc_size, items_size}
use Rattle.seal_media.proofs.fragment.traf_body.Goals as goal

pub append_box-requires : goal.append_box-requires
append_box-requires c = omega (arith, ap length (c.as_slice.ensures ∙ c.in_ok-tfhd.ensures), tfhd_size c.args.part.now.track)

pub append_box-requires-2 : goal.append_box-requires-2
append_box-requires-2 c =
    let samples = c.args.part.now.samples in
    let trun = rw c.as_slice-samples.ensures at c.in_ok-trun.ensures in
    omega (arith, ap length (c.as_slice-2.ensures ∙ trun), trun_size c.args.offset (map sample_bytes samples), length-map samples sample_bytes, items_size c.args.plan.now c.args.number samples, c.requires.boxes)

pub append_box-requires-3 : goal.append_box-requires-3
append_box-requires-3 c =
    let samples = c.args.part.now.samples in
    let senc = rw c.as_slice-samples.ensures at c.in_ok-senc.ensures in
    omega (arith, ap length (c.as_slice-3.ensures ∙ senc), senc_size (items_from c.args.plan.now c.args.number samples), items_size c.args.plan.now c.args.number samples, c.requires.boxes)
