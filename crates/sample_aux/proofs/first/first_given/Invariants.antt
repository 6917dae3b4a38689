use Rattle.std.proofs.Common.{◌≡◌, drop}
use Rattle.sample_aux.specs.Spans.{boxes_at, first_given}
use Rattle.sample_aux.proofs.first.first_given.Given as goal

abbrev pub invariant-loop-span : goal.invariant-loop-span
invariant-loop-span g l = first_given (g.R.BoxReader.gives l.reader) (boxes_at l.file (drop l.span-index l.spans)) ≡ first_given (g.R.BoxReader.gives l.reader) (boxes_at l.file l.fn.spans)
