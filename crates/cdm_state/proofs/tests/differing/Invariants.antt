use Rattle.std.specs.Prelude.{MatchOption}
use Rattle.cdm_state.specs.Contract.{IsOpen}
use Rattle.cdm_state.proofs.tests.differing.Given as goal

abbrev pub invariant-loop-row : goal.invariant-loop-row
invariant-loop-row l = MatchOption l.held (Unit {0}) (λ c. IsOpen l.cdm c)
