use Rattle.team_play.proofs.Stays.{stays_self, stays_kept, stays_trans}
use Rattle.team_play.proofs.Added.{took_none, took_both, by_refusal}
use Rattle.team_play.proofs.Runs.{settled_now}
use Rattle.team_play.proofs.steps.settle_all.Goals as goal

pub loop-init : goal.loop-init
loop-init g c = (stays_self _ _ c.requires, took_none _ _)

pub loop-preserved : goal.loop-preserved
loop-preserved g c = (
  stays_trans _ _ _ _ c.loop.invariant.0 (stays_trans _ _ _ _ (stays_kept _ _ _ c.settle-next.ensures.kept) c.take_step-next.ensures.kept),
  took_both _ _ _ _ _ _ c.loop.invariant.1 (took_both _ _ _ _ _ _ (by_refusal c.args.line c.in-Err.fault _ _ _ _ _ (rw c.in-Err.is at c.settle-next.ensures.shared)) (rw c.in-Ok-went.is at c.take_step-next.ensures.steps)),
)

pub returns-in-Ok-clause-settles : goal.returns-in-Ok-clause-settles
returns-in-Ok-clause-settles g c = settled_now c.args.shared.now c.args.line c.in-Ok.field-0 c.args.pass c.loop.pass c.settle-next.result.0 c.loop.invariant.0 c.loop.invariant.1 (rw c.in-Ok.is at c.settle-next.ensures.shared)
