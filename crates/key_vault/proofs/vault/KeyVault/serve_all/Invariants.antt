use Rattle.std.proofs.Common.{take}
use Rattle.std.specs.Prelude.{Ok}
use Rattle.key_vault.specs.Served.{Serves}
use Rattle.key_vault.proofs.vault.KeyVault.serve_all.Given as goal

abbrev pub invariant-loop-command : goal.invariant-loop-command
invariant-loop-command g l = Serves g.D.VaultDisk.state g.D.VaultDisk.may_leave g.D.VaultDisk.left_since l.initial.self l.self (take l.command-index l.commands) (Ok tt)
