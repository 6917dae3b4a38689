use Rattle.std.proofs.Common.{◌≡◌, ◌∙◌, sym}
use Rattle.key_vault.proofs.Found.{gone_at, none_gone}
use Rattle.key_vault.proofs.records.remove.Goals as goal

pub returns-in-Some : goal.returns-in-Some
returns-in-Some c =
    let at = rw c.deref.ensures.value at c.in-Some.ensures in
    c.remove-gone.ensures.items ∙ sym (gone_at c.args.records.now.items c.in-Some.i c.remove-gone.result c.args.label.now at)

pub returns-in_default : goal.returns-in_default
returns-in_default c =
    let none = rw c.deref.ensures.value at c.in_default.ensures in
    sym (none_gone c.args.records.now.items c.args.label.now none)
