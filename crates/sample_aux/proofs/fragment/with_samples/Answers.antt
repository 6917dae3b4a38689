use Rattle.std.proofs.Common.{◌≡◌, ◌∷◌, rules}
use Rattle.std.specs.Vec.Iter.{into_iter_items}
use Rattle.sample_aux.proofs.Parts.{keeps}
use Rattle.sample_aux.proofs.fragment.with_samples.Goals as goal

pub loop-part-preserved : goal.loop-part-preserved
loop-part-preserved c =
    let rest : into_iter_items c.loop-part.part-iterator ≡ c.in-Some.part ∷ into_iter_items c.next.new.self = search rules in
    (rw c.in_ok-keep.ensures (keeps c.loop-part.all c.in-Some.part (into_iter_items c.next.new.self) _ (rw rest at c.loop-part.invariant.0)), search rules)
