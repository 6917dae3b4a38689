use Rattle.vault_disk.specs.Memory.{memory_state}
use Rattle.key_vault.specs.Crash.{HasGate}
use Rattle.key_vault.proofs.tests.a_licence_is_stored_released_and_acknowledged.Given as goal

abbrev pub invariant-loop-verb : goal.invariant-loop-verb
invariant-loop-verb g l = HasGate (memory_state l.vault.disk) l.vault.gate l.vault.must_reopen
