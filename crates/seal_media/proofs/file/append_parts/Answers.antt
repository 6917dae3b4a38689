use Rattle.std.proofs.Common.{◌≡◌, ◌+◌, ◌++◌, List, ℕ, [], ◌∷◌, take, arith, ◌∙◌, ap, sym, refl}
use Rattle.eme_types.specs.declared.media.TrackPart.{TrackPart}
use Rattle.std.proofs.lemmas.List.{take_more, flat_map_more}
use Rattle.std.proofs.lemmas.List.Sums.{sum_by_push}
use Rattle.eme_types.specs.Fed.{part_samples}
use Rattle.seal_media.specs.Sealed.{IsSealedPart}
use Rattle.seal_media.specs.Layout.{part_data}
use Rattle.seal_media.proofs.SealedLemmas.{one_part_more}
use Rattle.seal_media.proofs.file.append_parts.Goals as goal

pub loop-part-preserved : goal.loop-part-preserved
loop-part-preserved c =
    let l = c.loop-part in
    let done = l.invariant.done in
    let one = rw c.as_slice.ensures at c.in_ok-append_samples.ensures in
    let parts = c.args.parts.now in
    let clear = c.part-item.result in
    let more : take (l.part-index + 1) parts ≡ take l.part-index parts ++ clear ∷ [] = take_more parts l.part-index clear c.loop-part-test.true ∙ ap (λ (x : TrackPart). take l.part-index parts ++ x ∷ []) (sym c.part-item.is) in
    let sealed : TrackPart = record { track = clear.track; samples = one.sealed } in
    let is : IsSealedPart c.args.plan.now l.number clear sealed = record { track = refl; samples = one.are } in
    record {
      number = rw more (omega (arith, l.invariant.number, c.len.ensures, sum_by_push part_samples (take l.part-index parts) clear));
      done = record {
        sealed = done.sealed ++ sealed ∷ [];
        are = rw more (one_part_more c.args.plan.now c.args.number l.number (take l.part-index parts) done.sealed clear sealed done.are l.invariant.number is);
        behind = one.behind ∙ ap (λ (xs : List ℕ). xs ++ part_data sealed) done.behind ∙ flat_map_more part_data c.args.out.now.items done.sealed sealed;
      };
    }
