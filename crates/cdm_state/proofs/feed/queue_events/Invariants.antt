use Rattle.std.proofs.Common.{◌≡◌, ◌≤◌, length, deque_items}
use Rattle.cdm_state.specs.Feeds.{fired_all}
use Rattle.cdm_state.proofs.feed.queue_events.Given as goal

abbrev pub invariant-loop-event : goal.invariant-loop-event
invariant-loop-event l = (l.sessions ≡ fired_all l.yielded l.fn.sessions) × (length (deque_items l.event-iterator.rest) ≤ l.sessions.room)
