use Rattle.seal_media.proofs.OpeningLemmas.{as_tenths}
use Rattle.seal_media.proofs.cipher.seal_part.Goals as goal

pub returns-in-Cbcs : goal.returns-in-Cbcs
returns-in-Cbcs c = as_tenths c.args.plan.now.scheme c.args.keys.now c.args.plan.now.iv c.args.number c.args.bytes.now c.seal_tenths.new.bytes c.in-Cbcs.is c.seal_tenths.ensures
