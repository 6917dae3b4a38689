use Rattle.std.proofs.Common.{◌≡◌, ◌+◌, ◌++◌, List, ℕ, [], ◌∷◌, length, take, arith, length-take, ◌∙◌, ap, sym}
use Rattle.std.proofs.lemmas.List.{take_more, flat_map_more}
use Rattle.eme_types.specs.declared.sample.EncSample.{EncSample}
use Rattle.seal_media.proofs.SealedLemmas.{one_more}
use Rattle.seal_media.proofs.file.append_samples.Goals as goal

pub loop-sample-preserved : goal.loop-sample-preserved
loop-sample-preserved c =
    let l = c.loop-sample in
    let done = l.invariant.done in
    let one = c.in_ok-append_sample.ensures in
    let samples = c.args.samples.now in
    let clear = c.sample-item.result in
    let more : take (l.sample-index + 1) samples ≡ take l.sample-index samples ++ clear ∷ [] = take_more samples l.sample-index clear c.loop-sample-test.true ∙ ap (λ (x : EncSample). take l.sample-index samples ++ x ∷ []) (sym c.sample-item.is) in
    let count : l.number ≡ c.args.number + length (take l.sample-index samples) = omega (arith, l.invariant.number, length-take l.sample-index samples, c.loop-sample-test.true) in
    record {
      number = omega (arith, l.invariant.number);
      done = record {
        sealed = done.sealed ++ one.sealed ∷ [];
        are = rw more (one_more c.args.plan.now c.args.number l.number (take l.sample-index samples) done.sealed clear one.sealed done.are count one.is);
        behind = one.behind ∙ ap (λ (xs : List ℕ). xs ++ one.sealed.bytes) done.behind ∙ flat_map_more (λ (s : EncSample). s.bytes) c.args.out.now.items done.sealed one.sealed;
      };
    }
