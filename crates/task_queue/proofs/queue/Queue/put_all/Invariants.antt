use Rattle.std.proofs.Common.{◌≡◌, ◌≤◌, ◌+◌, ◌++◌, length}
use Rattle.task_queue.proofs.queue.Queue.put_all.Given as goal

abbrev pub invariant-loop-item : goal.invariant-loop-item
invariant-loop-item g l = record {
  items : l.self.0 ≡ l.fn.self.0 ++ l.yielded;
  spare : l.fn.self.1 ≤ l.self.1 + length l.yielded;
}
