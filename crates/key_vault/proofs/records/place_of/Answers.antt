use Rattle.key_vault.proofs.Found.{none-take_more}
use Rattle.key_vault.proofs.records.place_of.Goals as goal

pub loop-i-preserved : goal.loop-i-preserved
loop-i-preserved c = none-take_more c.args.records.now c.loop-i.i c.index-records-i.result c.args.label.now c.loop-i-test.true c.loop-i.invariant (cc)
