use Rattle.std.proofs.Common.{refl, length, arith, rules, ap, ◌∙◌}
use Rattle.eme_types.specs.declared.entry.Entry.TheVariants.{Evict}
use Rattle.key_sessions.specs.Evict.{after_evict, evicts}
use Rattle.key_sessions.specs.SessionsState.{HasStepped}
use Rattle.key_sessions.specs.World.{World}
use Rattle.cdm_state.specs.Chronicle.{HasRoomFor}
use Rattle.cdm_state.proofs.Stepped.{kept_stepped, same_room, evict_quiet}
use Rattle.cdm_state.proofs.ShownOn.{same_out}
use Rattle.cdm_state.proofs.cdm.Cdm.evict.Goals as goal

pub invariant_of-self-in-Ok : goal.invariant_of-self-in-Ok
invariant_of-self-in-Ok c =
    let p = c.self.inside.parts in
    let reserved : HasRoomFor c.reserve.new.self.chronicle (length p.undelivered.items) p.tracks.tracks 1 = search rules in
    let stepped : HasStepped p.sessions c.evict.new.self (after_evict c.args.label p.sessions.machine) = rw (c.as_slice.ensures, c.reserve.ensures.rest) at c.in-Ok.ensures.ok in
    rw (c.record_step.ensures.rest, c.reserve.ensures.rest) (kept_stepped c.self.inside.ids p (Evict c.args.line c.args.label) (after_evict c.args.label p.sessions.machine) c.evict.new.self p.tracks.tracks c.reserve.new.self.chronicle c.record_step.new.self.chronicle c.self.invariant (record {
      before = p.sessions;
      same = refl;
      allowed = tt;
      quiet = (evict_quiet c.args.line c.args.label);
      does = refl;
      stepped = stepped;
      events = omega (arith, stepped.room, c.self.invariant.0.events);
      room = same_room p.tracks.tracks;
      out = same_out p.tracks.tracks;
      reserved = reserved;
      taken = c.record_step.ensures.room;
      entries = rw c.reserve.ensures.rest at c.record_step.ensures.entries;
      effects = rw c.reserve.ensures.rest at c.record_step.ensures.effects;
    }))

pub returns-in-Ok : goal.returns-in-Ok
returns-in-Ok c =
    record {
      ok = search rules;
      evicted = rw (← c.self.view_is) ((rw (c.as_slice.ensures, c.reserve.ensures.rest) at c.in-Ok.ensures.open) ∙ ap (λ (w : World). evicts c.args.label w.machine) c.self.invariant.2.state);
      err = tt;
      back = tt;
    }
