use Rattle.std.proofs.Common.{rules}
use Rattle.init_data.proofs.PsshAgain.{written, alone}
use Rattle.init_data.proofs.pssh.put_pssh.Goals as goal

pub returns-clause-again : goal.returns-clause-again
returns-clause-again c = written c.put_box.result c.args.out.now c.put_box.new.out c.args.what.now (search rules)

pub returns-clause-alone : goal.returns-clause-alone
returns-clause-alone c = alone c.put_box.result c.args.out.now c.put_box.new.out c.args.what.now (search rules)
