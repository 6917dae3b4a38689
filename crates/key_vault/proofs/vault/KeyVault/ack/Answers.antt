use Rattle.std.proofs.Common.{ℕ, List, sym, subst}
use Rattle.key_vault.specs.declared.command.Command.TheVariants.{Ack}
use Rattle.key_vault.specs.Crash.{Appended}
use Rattle.key_vault.proofs.Committed.{committed}
use Rattle.key_vault.proofs.vault.KeyVault.ack.Goals as goal

pub returns : goal.returns
returns g c =
    let mid = c.prepare_ack.new.self in
    let new = c.append.new.self in
    let behind = c.in_ok-behind.behind in
    let appended = subst (λ (l : List ℕ). Appended g.D.VaultDisk.state g.D.VaultDisk.may_leave g.D.VaultDisk.left_since mid new l c.append.result) c.as_slice.ensures c.append.ensures in
    committed g.D.VaultDisk.state g.D.VaultDisk.may_leave g.D.VaultDisk.left_since c.args.self.now mid new (Ack c.args.label.now) behind c.if-self.false c.in_ok-behind.ensures.ok c.append.result appended
