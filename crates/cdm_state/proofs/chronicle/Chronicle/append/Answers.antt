use Rattle.std.proofs.Common.{arith}
use Rattle.cdm_state.proofs.Fragments.{few_fragments}
use Rattle.cdm_state.proofs.chronicle.Chronicle.append.Goals as goal

pub overflow_add-self : goal.overflow_add-self
overflow_add-self c = omega (arith, c.self.invariant.counted, few_fragments c.self.inside.entries.0, c.next_place-place.ensures, c.fragments_fed-fed.ensures.one)
