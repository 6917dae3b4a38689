use Rattle.std.proofs.Common.{◌≡◌, ◌++◌, length}
use Rattle.std.specs.Prelude.{filter}
use Rattle.std.specs.Vec.Iter.{into_iter_items, into_iter_len}
use Rattle.eme_types.specs.Fed.{has_samples}
use Rattle.sample_aux.proofs.fragment.with_samples.Given as goal

abbrev pub invariant-loop-part : goal.invariant-loop-part
invariant-loop-part l = (l.all ++ filter has_samples (into_iter_items l.part-iterator) ≡ filter has_samples (into_iter_items l.initial.part-iterator))
    × (into_iter_len l.part-iterator ≡ length (into_iter_items l.part-iterator))
