use Rattle.std.proofs.Common.{◌≡◌, ◌++◌, drop, filter}
use Rattle.key_system_access.specs.Access.{is_init_type}
use Rattle.key_system_access.proofs.access.kept_init_types.Given as goal

abbrev pub invariant-loop-text : goal.invariant-loop-text
invariant-loop-text l = filter is_init_type l.types ≡ l.kept ++ filter is_init_type (drop l.text-index l.types)
