use Rattle.std.proofs.Common.{◌<◌, ◌^◌}
use Rattle.std.proofs.lemmas.List.Elements.{All-from_get_or}
use Rattle.seal_media.proofs.file.have_widths.Goals as goal

pub returns-clause-ids : goal.returns-clause-ids
returns-clause-ids c = All-from_get_or (λ id. id < 2 ^ 32) c.args.ids.now 0 (λ i lt. (c.type_inv.ids i).fits)
