use Rattle.std.proofs.Common.{arith}
use Rattle.license_desk.specs.ReadBack.{IsEncoded}
use Rattle.license_desk.proofs.PlainLemmas.{is_encoded, if_ok}
use Rattle.license_desk.proofs.licence.encoded.Goals as goal

pub returns-clause-reads : goal.returns-clause-reads
returns-clause-reads c = if_ok c.encode.result (IsEncoded c.args.bytes.now) (is_encoded c.args.bytes.now (λ i. let fits = c.type_inv.bytes i in omega arith))
