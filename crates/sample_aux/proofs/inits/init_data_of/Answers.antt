use Rattle.sample_aux.proofs.Bounds.{made_few, made_short}
use Rattle.sample_aux.proofs.inits.init_data_of.Goals as goal

pub returns-clause-few : goal.returns-clause-few
returns-clause-few c = made_few c.init_of.result c.args.file.now c.args.psshs.now c.init_of.ensures

pub returns-clause-bytes : goal.returns-clause-bytes
returns-clause-bytes c = made_short c.init_of.result c.args.file.now c.args.psshs.now c.init_of.ensures
