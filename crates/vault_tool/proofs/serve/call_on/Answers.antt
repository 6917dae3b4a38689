use Rattle.std.proofs.Common.{ℕ, List, sym, subst}
use Rattle.std.specs.Prelude.{Result, Option}
use Rattle.vault_tool.specs.declared.outcome.VaultOutcome.{VaultOutcome}
use Rattle.vault_tool.specs.Calls.{call_of}
use Rattle.vault_tool.specs.Accepted.{AnswersWith}
use Rattle.vault_tool.proofs.OneCall.{answered}
use Rattle.vault_tool.proofs.serve.call_on.Goals as goal

pub returns-in-Ok : goal.returns-in-Ok
returns-in-Ok g c =
    let state = g.D.VaultDisk.state in
    let may_leave = g.D.VaultDisk.may_leave in
    let left_since = g.D.VaultDisk.left_since in
    let call = call_of c.args.call.now in
    rw (c.into_disk.ensures, c.answer_of-answer.ensures)
    (answered state may_leave left_since c.args.disk c.in-Ok.opened c.call_vault.new.vault call c.in-Ok.ensures.opened c.call_vault.result c.call_vault.ensures)
