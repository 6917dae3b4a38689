use Rattle.std.proofs.Common.{◌≡◌, ◌∷◌, rules}
use Rattle.std.specs.Vec.Iter.{into_iter_items}
use Rattle.sample_aux.proofs.Parts.{one_met}
use Rattle.sample_aux.proofs.fragment.put_part.Goals as goal

pub loop-one-preserved : goal.loop-one-preserved
loop-one-preserved c =
    let rest : into_iter_items c.loop-one.one-iterator ≡ c.in-Some.one ∷ into_iter_items c.next.new.self = search rules in
    (rw c.in_ok-push.ensures.ok (one_met c.loop-one.all c.in-Some.one (into_iter_items c.next.new.self) c.loop-one.left _ c.in_ok-kept.kept c.in_ok-kept.rest c.in_ok-kept.ensures (rw rest at c.loop-one.invariant.0)), search rules)
