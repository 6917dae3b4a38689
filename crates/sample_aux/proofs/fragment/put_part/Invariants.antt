use Rattle.std.proofs.Common.{◌≡◌, ◌++◌, length}
use Rattle.std.specs.Vec.Iter.{into_iter_items, into_iter_len}
use Rattle.sample_aux.specs.Resolve.{put_part, put_left}
use Rattle.sample_aux.proofs.fragment.put_part.Given as goal

abbrev pub invariant-loop-one : goal.invariant-loop-one
invariant-loop-one l = (l.all ++ put_left (into_iter_items l.one-iterator) l.left ≡ put_part (into_iter_items l.initial.one-iterator) l.fn.part)
    × (into_iter_len l.one-iterator ≡ length (into_iter_items l.one-iterator))
