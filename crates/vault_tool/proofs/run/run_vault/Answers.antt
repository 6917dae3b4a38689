use Rattle.std.proofs.Common.{map}
use Rattle.std.specs.Prelude.{string_bytes}
use Rattle.vault_tool.specs.Words.{command}
use Rattle.vault_tool.proofs.AnswerDue.{exact}
use Rattle.vault_tool.proofs.run.run_vault.Goals as goal

pub returns-clause-exact : goal.returns-clause-exact
returns-clause-exact g c =
    exact g.D.VaultDisk.state g.D.VaultDisk.may_leave g.D.VaultDisk.left_since c.args.disk c.run_words.result.0 (g.S.Shelf.state c.args.shelf.now) (g.S.Shelf.state c.run_words.new.shelf)
    (command (map string_bytes c.args.words.now)) c.run_words.result.1 c.run_words.ensures
