use Rattle.std.proofs.Common.{◌≡◌, length, rules}
use Rattle.license_desk.proofs.PlainLemmas.{key_encoded}
use Rattle.license_desk.proofs.licence.encoded_key.Goals as goal

pub returns-clause-reads : goal.returns-clause-reads
returns-clause-reads c = let size : length c.args.key ≡ 16 = search rules in key_encoded c.args.key size c.encoded.result c.encoded.ensures.reads
