use Rattle.sample_crypt.proofs.Chains.{ChainAt}
use Rattle.sample_crypt.proofs.chain.open_chains.Given as goal

abbrev pub invariant-loop-range : goal.invariant-loop-range
invariant-loop-range l =
    (goal.iterator-loop-range).can_next l.range-iterator ×
    (goal.iterator-loop-range).is_finite l.range-iterator ×
    ChainAt l.keys l.protect l.sample.bytes l.before l.range-iterator l.bytes
