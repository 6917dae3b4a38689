use Rattle.std.proofs.Common.{◌≡◌, map, take}
use Rattle.eme_types.specs.declared.call.Event.TheVariants.{Encrypted}
use Rattle.cdm_state.proofs.feed.events_of.Given as goal

abbrev pub invariant-loop-init : goal.invariant-loop-init
invariant-loop-init l = l.events.items ≡ map Encrypted (take l.init-index l.inits)
