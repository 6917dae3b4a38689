use Rattle.std.proofs.Common.{◌≡◌, drop, find}
use Rattle.key_system_access.specs.Access.{supported}
use Rattle.key_system_access.proofs.access.first_supported.Given as goal

abbrev pub invariant-loop-candidate : goal.invariant-loop-candidate
invariant-loop-candidate l = find supported l.candidates ≡ find supported (drop l.candidate-index l.candidates)
