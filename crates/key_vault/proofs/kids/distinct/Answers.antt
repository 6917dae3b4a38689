use Rattle.std.proofs.Common.{◌∙◌, [], ap}
use Rattle.std.specs.Prelude.{bytes_eq}
use Rattle.std.proofs.lemmas.List.{take_all}
use Rattle.indexmap.specs.IndexSet.{insert_all}
use Rattle.init_data.proofs.FirstLemmas.{first_law, inserted}
use Rattle.key_vault.proofs.kids.distinct.Goals as goal

pub loop-kid-preserved : goal.loop-kid-preserved
loop-kid-preserved c = inserted c.args.kids.now c.loop-kid.kid-index c.kid-item.result _ _ _ c.loop-kid-test.true c.kid-item.is c.in_ok-copy.ensures c.loop-kid.invariant c.in_ok-insert.ensures.keys

pub returns : goal.returns
returns c = c.loop-kid.invariant ∙ ap (insert_all bytes_eq []) (take_all c.loop-kid.kid-index c.args.kids.now c.loop-kid-test.false) ∙ first_law c.args.kids.now
