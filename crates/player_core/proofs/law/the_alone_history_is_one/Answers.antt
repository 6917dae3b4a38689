use Rattle.player_core.proofs.TheOne.{the_one}
use Rattle.player_core.proofs.law.the_alone_history_is_one.Goals as goal

pub returns : goal.returns
returns c = the_one
