use Rattle.sample_crypt.proofs.Streams.{StreamAt}
use Rattle.sample_crypt.proofs.stream.open_stream.Given as goal

abbrev pub invariant-loop-range : goal.invariant-loop-range
invariant-loop-range l =
    (goal.iterator-loop-range).can_next l.range-iterator ×
    (goal.iterator-loop-range).is_finite l.range-iterator ×
    StreamAt l.keys l.protect l.sample.bytes l.from l.range-iterator l.bytes
