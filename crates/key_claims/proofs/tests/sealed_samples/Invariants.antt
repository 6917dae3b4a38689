use Rattle.std.proofs.Common.{◌≡◌, length}
use Rattle.key_claims.proofs.tests.sealed_samples.Given as goal

abbrev pub invariant-loop : goal.invariant-loop
invariant-loop l = length l.samples ≡ l.counter
