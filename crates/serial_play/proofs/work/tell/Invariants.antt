use Rattle.std.proofs.Common.{◌≡◌, ◌++◌, map, take}
use Rattle.cdm_state.specs.After.{fire_encrypted}
use Rattle.key_sessions.specs.Machine.{Machine}
use Rattle.serial_play.proofs.work.tell.Given as goal

-- the events so far are queued
abbrev pub invariant-loop-init : goal.invariant-loop-init
invariant-loop-init l = l.sessions.machine ≡ (let m : Machine = record (l.fn.sessions.machine) { tasks = l.fn.sessions.machine.tasks ++ map fire_encrypted (take l.init-index l.init-items) } in m)
