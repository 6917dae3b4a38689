use Rattle.key_sessions.proofs.OwedSteps.{asked_call, steady_job, steady_front, steady_tick, steady_evict}
use Rattle.key_sessions.proofs.law.promises_are_owed_until_they_are_settled.Goals as goal

pub returns : goal.returns
returns c = record { calls = asked_call; jobs = steady_job; tasks = steady_front; ticks = steady_tick; evictions = steady_evict }
