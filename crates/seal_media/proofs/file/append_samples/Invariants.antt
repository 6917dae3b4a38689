use Rattle.std.proofs.Common.{◌≡◌, ◌+◌, take}
use Rattle.seal_media.specs.Views.{HasSamples}
use Rattle.seal_media.proofs.file.append_samples.Given as goal

abbrev pub invariant-loop-sample : goal.invariant-loop-sample
invariant-loop-sample l = record {
  number : l.number ≡ l.fn.number + l.sample-index;
  done : HasSamples l.plan l.fn.number (take l.sample-index l.samples) l.initial.out.items l.out.items;
}
