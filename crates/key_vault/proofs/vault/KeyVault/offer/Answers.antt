use Rattle.std.proofs.Common.{◌∷◌, [], sym, subst}
use Rattle.std.specs.Prelude.{Result}
use Rattle.key_vault.specs.declared.fault.VaultFault.{VaultFault}
use Rattle.key_vault.specs.Served.{Serves}
use Rattle.key_vault.proofs.Lists.{passed_serves}
use Rattle.key_vault.proofs.vault.KeyVault.offer.Goals as goal

pub returns : goal.returns
returns g c =
    subst (λ (r : Result (Unit {0}) VaultFault). Serves g.D.VaultDisk.state g.D.VaultDisk.may_leave g.D.VaultDisk.left_since c.args.self.now c.give.new.self (c.args.command.now ∷ []) r) (sym c.passed.ensures)
    (passed_serves g.D.VaultDisk.state g.D.VaultDisk.may_leave g.D.VaultDisk.left_since c.args.self.now c.give.new.self c.args.command.now c.give.result c.give.ensures)
