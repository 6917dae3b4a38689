use Rattle.std.proofs.Common.{◌≡◌, true, None, sym}
use Rattle.std.specs.Prelude.{is_ok, is_some}
use Rattle.clearkey_json.specs.KeySet.{key_set}
use Rattle.key_vault.specs.declared.fault.VaultFault.TheVariants.{Licence}
use Rattle.key_vault.specs.declared.stored.VaultRecord.TheVariants.{Held}
use Rattle.key_vault.specs.Label.{is_label}
use Rattle.key_vault.specs.Records.{record_of, StandsAt}
use Rattle.key_vault.proofs.Broken.{demanded_means, some_means, exists_at}
use Rattle.key_vault.proofs.records.check_store.Goals as goal

pub returns-then-is_some : goal.returns-then-is_some
returns-then-is_some c =
    let records = c.args.records.now in
    let label = c.args.label.now in
    let licence = c.args.licence.now in
    let known : is_label label ≡ true = cc in
    let read = demanded_means Licence (is_ok (key_set licence)) c.in_ok-check_licence.ensures.follows in
    let there : is_some c.place_of.result ≡ true = cc in
    let at = some_means c.place_of.result (record_of label records ≡ None) (StandsAt records label) there c.place_of.ensures in
    record { follows = exists_at records label licence c.args.gate at.0 (Held label licence) known read at.1 }
