use Rattle.std.proofs.Common.{◌≡◌, ◌∙◌, ap, sym, set}
use Rattle.key_vault.specs.declared.stored.VaultRecord.{VaultRecord}
use Rattle.key_vault.proofs.Found.{released_at}
use Rattle.key_vault.proofs.Broken.{released_is}
use Rattle.key_vault.proofs.records.put_releasing.Goals as goal

pub returns-in-Some : goal.returns-in-Some
returns-in-Some c =
    let records = c.args.records.now.items in
    let label = c.args.label.now in
    let i = c.in-Some.i in
    let at = rw c.deref.ensures.value at c.in-Some.ensures in
    let same = released_is records label i c.args.entry c.args.entry at c.requires.held c.requires.entry in
    sym (released_at records i c.args.entry label at ∙ ap (λ (r : VaultRecord). set records i r) same)
