use Rattle.std.proofs.Common.{refl, length, arith}
use Rattle.eme_types.specs.declared.entry.Entry.TheVariants.{Tick}
use Rattle.key_sessions.specs.Tasks.{after_tick}
use Rattle.key_sessions.specs.SessionsState.{HasStepped}
use Rattle.cdm_state.specs.Chronicle.{HasRoomFor}
use Rattle.cdm_state.proofs.Stepped.{kept_stepped, same_room, tick_quiet}
use Rattle.cdm_state.proofs.ShownOn.{same_out}
use Rattle.cdm_state.proofs.cdm.Cdm.tick.Goals as goal

pub invariant_of-self-2 : goal.invariant_of-self-2
invariant_of-self-2 c =
    let p = c.self.inside.parts in
    let reserved : HasRoomFor c.reserve.new.self.chronicle (length p.undelivered.items) p.tracks.tracks 1 = c.in_ok-reserve.ensures.ok in
    let stepped : HasStepped p.sessions c.tick.new.self (after_tick c.args.moment p.sessions.machine) = rw c.reserve.ensures.rest at c.in_ok-tick.ensures.ok in
    rw (c.record_step.ensures.rest, c.reserve.ensures.rest) (kept_stepped c.self.inside.ids p (Tick c.args.line c.args.moment) (after_tick c.args.moment p.sessions.machine) c.tick.new.self p.tracks.tracks c.reserve.new.self.chronicle c.record_step.new.self.chronicle c.self.invariant (record {
      before = p.sessions;
      same = refl;
      allowed = (rw (← c.self.view_is) at c.requires);
      quiet = (tick_quiet c.args.line c.args.moment);
      does = refl;
      stepped = stepped;
      events = omega (arith, stepped.room, c.self.invariant.0.events);
      room = same_room p.tracks.tracks;
      out = same_out p.tracks.tracks;
      reserved = reserved;
      taken = c.record_step.ensures.room;
      entries = rw c.reserve.ensures.rest at c.record_step.ensures.entries;
      effects = rw c.reserve.ensures.rest at c.record_step.ensures.effects;
    }))
