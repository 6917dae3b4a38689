use Rattle.std.proofs.Common.{refl, length, arith, rules, ◌∙◌}
use Rattle.eme_types.specs.declared.entry.Entry.TheVariants.{Call}
use Rattle.key_sessions.specs.Calls.{after_call}
use Rattle.key_sessions.specs.SessionsState.{HasStepped}
use Rattle.cdm_state.specs.Chronicle.{HasRoomFor}
use Rattle.cdm_state.proofs.Stepped.{kept_stepped, same_room, call_quiet}
use Rattle.cdm_state.proofs.ShownOn.{same_out}
use Rattle.cdm_state.proofs.Exact.{call_number}
use Rattle.cdm_state.proofs.cdm.Cdm.call.Goals as goal

pub invariant_of-self-in-Ok : goal.invariant_of-self-in-Ok
invariant_of-self-in-Ok c =
    let p = c.self.inside.parts in
    let reserved : HasRoomFor c.reserve.new.self.chronicle (length p.undelivered.items) p.tracks.tracks 1 = search rules in
    let stepped : HasStepped p.sessions c.call.new.self (after_call c.args.call p.sessions.machine) = rw c.reserve.ensures.rest at c.in-Ok.ensures.ok in
    rw (c.record_step.ensures.rest, c.reserve.ensures.rest) (kept_stepped c.self.inside.ids p (Call c.args.lane c.args.line c.args.call) (after_call c.args.call p.sessions.machine) c.call.new.self p.tracks.tracks c.reserve.new.self.chronicle c.record_step.new.self.chronicle c.self.invariant (record {
      before = p.sessions;
      same = refl;
      allowed = tt;
      quiet = (call_quiet c.args.lane c.args.line c.args.call);
      does = refl;
      stepped = stepped;
      events = omega (arith, stepped.room, c.self.invariant.0.events);
      room = same_room p.tracks.tracks;
      out = same_out p.tracks.tracks;
      reserved = reserved;
      taken = c.record_step.ensures.room;
      entries = rw c.reserve.ensures.rest at c.record_step.ensures.entries;
      effects = rw c.reserve.ensures.rest at c.record_step.ensures.effects;
    }))

pub returns-in-Ok : goal.returns-in-Ok
returns-in-Ok c =
    let s = c.self.inside in
    record {
      ok = search rules;
      number = rw (← c.self.view_is) ((rw c.reserve.ensures.rest at c.in-Ok.ensures.number) ∙ call_number s.ids s.parts.chronicle.entries s.parts.chronicle.effects s.parts.sessions.machine s.parts.tracks.tracks s.parts.tracks.claims c.self.invariant.2);
      err = tt;
      back = tt;
    }
