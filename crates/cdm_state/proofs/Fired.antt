-- Events that are queued.
use Rattle.std.proofs.Common.{◌≡◌, ◌-◌, ◌∙◌, List, [], ◌∷◌, ◌++◌, length, map, refl, ap, sym, arith, append_assoc, append-nil}
use Rattle.eme_types.specs.declared.call.Event.{Event}
use Rattle.eme_types.specs.declared.call.Event.TheVariants.{Encrypted}
use Rattle.eme_types.specs.declared.media.InitData.{InitData}
use Rattle.task_queue.specs.declared.work.Task.{Task}
use Rattle.task_queue.specs.declared.work.Task.TheVariants.{Fire}
use Rattle.key_sessions.specs.Machine.{Machine}
use Rattle.key_sessions.specs.SessionsState.{SessionsState}
use Rattle.cdm_state.specs.After.{fire_encrypted}
use Rattle.cdm_state.specs.Feeds.{fired, fired_all}

pub fired_machine : (events : List Event) (s : SessionsState) → (fired_all events s).machine ≡ record (s.machine) { tasks = s.machine.tasks ++ map Fire events }
fired_machine [] s = ap (λ (ts : List Task). let k : Machine = record (s.machine) { tasks = ts } in k) (sym (append-nil s.machine.tasks))
fired_machine (e ∷ es) s = fired_machine es (fired s e) ∙ ap (λ (ts : List Task). let k : Machine = record (s.machine) { tasks = ts } in k) (append_assoc s.machine.tasks (Fire e ∷ []) (map Fire es))

pub fired_room : (events : List Event) (s : SessionsState) → (fired_all events s).room ≡ s.room - length events
fired_room [] s = omega arith
fired_room (e ∷ es) s = (let r = fired_room es (fired s e) in omega (arith, r))

pub fires : (inits : List InitData) → map Fire (map Encrypted inits) ≡ map fire_encrypted inits
fires [] = refl
fires (i ∷ is) = ap (λ (ts : List Task). fire_encrypted i ∷ ts) (fires is)
