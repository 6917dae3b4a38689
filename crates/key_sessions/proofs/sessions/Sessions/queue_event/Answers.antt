use Rattle.std.proofs.Common.{[], ◌∷◌, arith, inl, map, length}
use Rattle.task_queue.specs.declared.work.Task.TheVariants.{Fire}
use Rattle.key_sessions.specs.SessionOf.{session_of}
use Rattle.key_sessions.specs.Kept.{machine_of}
use Rattle.key_sessions.proofs.There.{there_more, last_task}
use Rattle.key_sessions.proofs.Owed.{tasks_more}
use Rattle.key_sessions.proofs.sessions.Sessions.queue_event.Goals as goal

pub invariant_of-self : goal.invariant_of-self
invariant_of-self c = record {
  few = c.self.invariant.few;
  owed = λ p. rw c.put.ensures.items (omega (arith, c.self.invariant.owed p, tasks_more p c.self.inside.tasks.0 (Fire c.args.event ∷ [])));
  there = there_more (machine_of c.self.inside) _ c.self.invariant.there (omega arith) (λ job at. inl at) (λ task at. last_task (length (map session_of c.self.inside.items.items)) c.self.inside.tasks.0 (Fire c.args.event) tt task (rw c.put.ensures.items at at));
  reserved = omega (arith, c.self.invariant.reserved, c.put.ensures.spare);
  indexed = c.self.invariant.indexed;
}
