use Rattle.std.proofs.Common.{◌≡◌, ◌∙◌, ap, sym, Some}
use Rattle.key_vault.specs.Records.{record_of}
use Rattle.key_vault.specs.Rules.{releasing}
use Rattle.key_vault.proofs.Found.{record_at}
use Rattle.key_vault.proofs.records.check_gone.Goals as goal

pub returns-in-Some : goal.returns-in-Some
returns-in-Some c =
    let r = c.index-records-i.result in
    let there : record_of c.args.label.now c.args.records.now ≡ Some r = record_at c.args.records.now c.in-Some.i r c.args.label.now c.in-Some.ensures ∙ ap Some (sym c.index-records-i.is) in
    c.check_releasing.ensures ∙ ap releasing (sym there)
