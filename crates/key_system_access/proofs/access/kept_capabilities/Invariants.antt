use Rattle.std.proofs.Common.{◌≡◌, ◌++◌, drop, filter}
use Rattle.key_system_access.specs.Access.{is_capable}
use Rattle.key_system_access.proofs.access.kept_capabilities.Given as goal

abbrev pub invariant-loop-capability : goal.invariant-loop-capability
invariant-loop-capability l = filter (is_capable l.fn.medium) l.capabilities ≡ l.kept ++ filter (is_capable l.fn.medium) (drop l.capability-index l.capabilities)
