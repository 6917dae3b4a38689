use Rattle.key_claims.specs.Contract.{AreBelow}
use Rattle.key_claims.proofs.tests.claims_given.Given as goal

abbrev pub invariant-loop-given : goal.invariant-loop-given
invariant-loop-given l = AreBelow l.given l.tracks.claims
