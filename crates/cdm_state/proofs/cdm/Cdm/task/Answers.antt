use Rattle.std.proofs.Common.{◌≡◌, ◌≢◌, ◌≤◌, [], map, refl, length, false, ap, subst, arith, rules}
use Rattle.std.specs.Prelude.{if◌then◌else◌}
use Rattle.eme_types.specs.declared.entry.Entry.TheVariants.{Task}
use Rattle.key_sessions.specs.Keys.{pick}
use Rattle.key_sessions.specs.SessionsState.{SessionsState, HasStepped}
use Rattle.key_sessions.specs.Tasks.{after_task}
use Rattle.key_sessions.specs.World.{World, resumes}
use Rattle.key_claims.specs.Changes.{resumed_one}
use Rattle.key_claims.specs.TracksState.{TracksState}
use Rattle.cdm_state.specs.Chronicle.{HasRoomFor}
use Rattle.cdm_state.proofs.Stepped.{kept_stepped, task_quiet, task_does}
use Rattle.cdm_state.proofs.TrackLists.{awake_within, resumed_if}
use Rattle.cdm_state.proofs.ShownOn.{resumed_out}
use Rattle.cdm_state.proofs.May.{nothing_left}
use Rattle.cdm_state.proofs.cdm.Cdm.task.Goals as goal

pub invariant_of-self-2 : goal.invariant_of-self-2
invariant_of-self-2 c =
    let p = c.self.inside.parts in
    let m = p.sessions.machine in
    let ts = p.tracks.tracks in
    let us = c.resume_if.new.tracks.tracks in
    let n = c.task.new.self in
    let some : m.tasks ≢ [] = search rules in
    let reserved : HasRoomFor c.reserve.new.self.chronicle (length p.undelivered.items) ts 1 = c.in_ok-reserve.ensures.ok in
    let ok = rw (c.reserve_events.ensures.rest, c.reserve.ensures.rest) at c.in_ok-resume.ensures.ok in
    let before : SessionsState = record (p.sessions) { room = c.reserve_events.new.self.room } in
    let stepped : HasStepped before n (after_task m) = ok in
    let asked : c.in_ok-resume.resume ≡ resumes m.tasks = rw (c.reserve_events.ensures.rest, c.reserve.ensures.rest) at c.in_ok-resume.ensures.resume in
    let had = c.reserve.new.self.tracks.tracks in
    let seen : us ≡ (if c.in_ok-resume.resume then map (resumed_one (pick n.machine)) had else had) = ap (λ (x : TracksState). x.tracks) c.resume_if.ensures in
    let looked : us ≡ (if resumes m.tasks then map (resumed_one (pick n.machine)) ts else ts) = rw (asked, c.reserve.ensures.rest) at seen in
    let claims : c.resume_if.new.tracks.claims ≡ c.reserve.new.self.tracks.claims = ap (λ (x : TracksState). x.claims) c.resume_if.ensures in
    let reserved_events : length c.reserve.new.self.tracks.tracks ≤ c.reserve_events.new.self.room = search rules in
    let awake : length ts ≤ c.reserve_events.new.self.room = rw c.reserve.ensures.rest at reserved_events in
    let room = resumed_if (resumes m.tasks) _ ts us looked in
    rw (c.record_step.ensures.rest, claims, c.reserve.ensures.rest) (kept_stepped c.self.inside.ids p Task (after_task m) n us c.reserve.new.self.chronicle c.record_step.new.self.chronicle c.self.invariant (record {
      before = before;
      same = refl;
      allowed = subst (λ (w : World). w.machine.tasks ≢ []) c.self.invariant.2.state some;
      quiet = task_quiet;
      does = task_does m n.machine ts us stepped.machine looked;
      stepped = stepped;
      events = omega (arith, stepped.room, awake, room.length_, awake_within us);
      room = room;
      out = resumed_out (resumes m.tasks) _ ts us looked;
      reserved = reserved;
      taken = c.record_step.ensures.room;
      entries = rw c.reserve.ensures.rest at c.record_step.ensures.entries;
      effects = rw c.reserve.ensures.rest at c.record_step.ensures.effects;
    }))

pub returns-then-not-task_left : goal.returns-then-not-task_left
returns-then-not-task_left c =
    let s = c.self.inside in
    let off : c.task_left.result ≡ false = search rules in
    let none : s.parts.sessions.machine.tasks ≡ [] = nothing_left s.parts.sessions.machine.tasks c.task_left.result c.task_left.ensures off in
    record {
      ok = tt;
      err = search rules;
      empty = rw (← c.self.view_is) ((λ e. subst (λ (w : World). w.machine.tasks ≡ []) c.self.invariant.2.state none), (λ e. refl));
    }
