use Rattle.player_core.proofs.Plays.{alone_by}
use Rattle.player_core.proofs.with_workers.is_alone.Goals as goal

pub returns-then-workers-eq0 : goal.returns-then-workers-eq0
returns-then-workers-eq0 c = alone_by _ _ _ c.if-workers-eq0.true c.is_one_lane.ensures
