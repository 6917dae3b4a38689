use Rattle.std.proofs.Common.{◌≡◌, ◌++◌, take}
use Rattle.std.specs.List.{flat_map}
use Rattle.key_system_access.specs.ConfigText.{capability_json, further}
use Rattle.key_system_access.proofs.text.put_further_capabilities.Given as goal

abbrev pub invariant-loop-capability : goal.invariant-loop-capability
invariant-loop-capability l = l.out ≡ l.initial.out ++ flat_map (further capability_json) (take l.capability-index l.capabilities)
