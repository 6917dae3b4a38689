use Rattle.std.proofs.Common.{◌≡◌, ◌≢◌, refl, length, subst, arith, rules, []}
use Rattle.eme_types.specs.declared.entry.Entry.TheVariants.{Job}
use Rattle.key_sessions.specs.Jobs.{after_job}
use Rattle.key_sessions.specs.SessionsState.{HasStepped}
use Rattle.key_sessions.specs.World.{World}
use Rattle.cdm_state.specs.Chronicle.{HasRoomFor}
use Rattle.cdm_state.proofs.Stepped.{kept_stepped, same_room, job_quiet}
use Rattle.cdm_state.proofs.ShownOn.{same_out}
use Rattle.cdm_state.proofs.May.{nothing_left}
use Rattle.std.proofs.Common.{false}
use Rattle.cdm_state.proofs.cdm.Cdm.job.Goals as goal

pub invariant_of-self-2 : goal.invariant_of-self-2
invariant_of-self-2 c =
    let p = c.self.inside.parts in
    let some : p.sessions.machine.jobs ≢ [] = search rules in
    let reserved : HasRoomFor c.reserve.new.self.chronicle (length p.undelivered.items) p.tracks.tracks 1 = c.in_ok-reserve.ensures.ok in
    let stepped : HasStepped p.sessions c.job.new.self (after_job p.sessions.machine) = rw c.reserve.ensures.rest at c.in_ok-job.ensures.ok in
    rw (c.record_step.ensures.rest, c.reserve.ensures.rest) (kept_stepped c.self.inside.ids p Job (after_job p.sessions.machine) c.job.new.self p.tracks.tracks c.reserve.new.self.chronicle c.record_step.new.self.chronicle c.self.invariant (record {
      before = p.sessions;
      same = refl;
      allowed = (subst (λ (w : World). w.machine.jobs ≢ []) c.self.invariant.2.state some);
      quiet = job_quiet;
      does = refl;
      stepped = stepped;
      events = omega (arith, stepped.room, c.self.invariant.0.events);
      room = same_room p.tracks.tracks;
      out = same_out p.tracks.tracks;
      reserved = reserved;
      taken = c.record_step.ensures.room;
      entries = rw c.reserve.ensures.rest at c.record_step.ensures.entries;
      effects = rw c.reserve.ensures.rest at c.record_step.ensures.effects;
    }))

pub returns-then-not-job_left : goal.returns-then-not-job_left
returns-then-not-job_left c =
    let s = c.self.inside in
    let off : c.job_left.result ≡ false = search rules in
    let none : s.parts.sessions.machine.jobs ≡ [] = nothing_left s.parts.sessions.machine.jobs c.job_left.result c.job_left.ensures off in
    record {
      ok = tt;
      err = search rules;
      empty = rw (← c.self.view_is) ((λ e. subst (λ (w : World). w.machine.jobs ≡ []) c.self.invariant.2.state none), (λ e. refl));
    }
