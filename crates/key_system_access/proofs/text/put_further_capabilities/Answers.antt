use Rattle.std.proofs.Common.{subst, sym}
use Rattle.key_system_access.specs.Utf8.{IsCapabilityUtf8}
use Rattle.key_system_access.proofs.text.put_further_capabilities.Goals as goal

pub put_capability-requires : goal.put_capability-requires
put_capability-requires c = subst IsCapabilityUtf8 (sym c.capability-item.is) (c.requires c.loop-capability.capability-index c.capability-item.result c.loop-capability-test.true)
