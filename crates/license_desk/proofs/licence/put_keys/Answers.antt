use Rattle.std.proofs.Common.{◌∙◌}
use Rattle.std.proofs.lemmas.List.Elements.{All-more}
use Rattle.license_desk.specs.ReadBack.{IsReadBack}
use Rattle.license_desk.proofs.KeysLemmas.{further_put, at_place}
use Rattle.license_desk.proofs.licence.put_keys.Goals as goal

pub loop-row-preserved : goal.loop-row-preserved
loop-row-preserved c =
    let l = c.loop-row in record {
      text = further_put _ l.row-index c.row-item.result _ _ _ _ _ c.loop-row-test.true c.row-item.is l.invariant.text c.in_ok-push_str-2.ensures.bytes (c.deref-in-loop-row.ensures ∙ c.in_ok-key.ensures.text) c.in_ok-push_str-3.ensures.bytes;
      reads = All-more IsReadBack _ l.row-index c.row-item.result c.loop-row-test.true l.invariant.reads (at_place IsReadBack _ l.row-index c.row-item.result c.row-item.is c.in_ok-key.ensures.reads);
    }
