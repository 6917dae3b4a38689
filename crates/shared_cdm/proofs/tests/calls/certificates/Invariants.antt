use Rattle.std.proofs.Common.{◌≡◌}
use Rattle.shared_cdm.specs.Passes.{IsOf, parts}
use Rattle.shared_cdm.proofs.tests.calls.certificates.Given as goal

abbrev pub invariant-loop-line : goal.invariant-loop-line
invariant-loop-line g l = IsOf l.shared l.pass × (parts l.pass ≡ parts l.fn.pass)
