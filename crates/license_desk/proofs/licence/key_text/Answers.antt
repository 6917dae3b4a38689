use Rattle.license_desk.specs.ReadBack.{IsEncoded, IsReadBack}
use Rattle.license_desk.proofs.PlainLemmas.{kid_back, if_ok}
use Rattle.license_desk.proofs.licence.key_text.Goals as goal

pub returns-clause-reads : goal.returns-clause-reads
returns-clause-reads c =
    let row = c.args.row.now in
    let kid : IsEncoded row.0 = rw c.bytes.ensures.value at c.in_ok-kid.ensures.reads in
    if_ok c.format.result (IsReadBack row) (record {
      kid = kid_back row.0 kid c.bytes.ensures.size.0 c.bytes.ensures.size.1;
      key = c.in_ok-key.ensures.reads;
      plain_kid = kid.plain;
      plain_key = c.in_ok-key.ensures.plain.plain;
    })
