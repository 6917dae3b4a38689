use Rattle.std.proofs.Common.{◌≡◌, ◌++◌, length, map}
use Rattle.std.specs.Vec.Iter.{into_iter_items, into_iter_len}
use Rattle.frag_boxes.specs.Moov.{with_trex}
use Rattle.frag_boxes.proofs.moov.with_trexes.Given as goal

abbrev pub invariant-loop-track : goal.invariant-loop-track
invariant-loop-track l = (l.out ++ map (with_trex l.trexes) (into_iter_items l.track-iterator) ≡ map (with_trex l.trexes) (into_iter_items l.initial.track-iterator))
    × (into_iter_len l.track-iterator ≡ length (into_iter_items l.track-iterator))
