use Rattle.std.proofs.Common.{◌≡◌}
use Rattle.book_lock.specs.Passes.{IsPassOf, parts}
use Rattle.book_lock.proofs.tests.calls.thousand.Given as goal

abbrev pub invariant-loop-i : goal.invariant-loop-i
invariant-loop-i g l = IsPassOf l.lock l.pass × (parts l.pass ≡ parts l.fn.pass)
