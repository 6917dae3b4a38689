use Rattle.std.proofs.Common.{rules, [], true, refl, length, get_or, ap, arith}
use Rattle.eme_types.specs.declared.entry.Entry.TheVariants.{WaitForKey}
use Rattle.key_sessions.specs.SessionsState.{SessionsState}
use Rattle.key_claims.specs.Changes.{changed_at, with_waiting}
use Rattle.key_claims.proofs.Deliveries.{on_err}
use Rattle.cdm_state.specs.Kept.{world_of}
use Rattle.cdm_state.proofs.TrackLists.{no_track, awake_here, unkeyed_awake, sleeps}
use Rattle.cdm_state.proofs.Places.{room_asleep, kept_more}
use Rattle.cdm_state.proofs.Onward.{wait_at}
use Rattle.cdm_state.proofs.Exact.{no_wait}
use Rattle.cdm_state.proofs.First.{first_wait}
use Rattle.cdm_state.proofs.ShownOn.{waiting_out}
use Rattle.cdm_state.proofs.OutOn.{out_plain, fewer_same}
use Rattle.cdm_state.proofs.cdm.Cdm.wait_for_key.Goals as goal

pub returns-in_err-track : goal.returns-in_err-track
returns-in_err-track c =
    let s = c.self.inside in
    record {
      ok = search rules;
      first = search rules;
      err = search rules;
      not_waiting = on_err c.from_residual.result (rw (← c.self.view_is) (no_wait s.ids s.parts.chronicle.entries s.parts.chronicle.effects s.parts.sessions.machine s.parts.tracks.tracks s.parts.tracks.claims c.self.invariant.2 c.in_err-track.ensures.not_waiting));
    }

pub queue_event-requires : goal.queue_event-requires
queue_event-requires c =
    let s = c.self.inside in
    let p = c.in_ok-track.ensures.ok in
    let some = awake_here s.parts.tracks.tracks p.at no_track p.first.within (unkeyed_awake _ s.parts.tracks.claims (get_or s.parts.tracks.tracks p.at no_track) (p.first.on no_track)) in
    omega (arith, some, c.self.invariant.0.events)

pub append_unseen-requires : goal.append_unseen-requires
append_unseen-requires c =
    let s = c.self.inside in
    let p = c.in_ok-track.ensures.ok in
    let some = awake_here s.parts.tracks.tracks p.at no_track p.first.within (unkeyed_awake _ s.parts.tracks.claims (get_or s.parts.tracks.tracks p.at no_track) (p.first.on no_track)) in
    omega (arith, some, c.self.invariant.0.entries)

pub invariant_of-self-2 : goal.invariant_of-self-2
invariant_of-self-2 c =
    let s = c.self.inside in
    let ts = s.parts.tracks.tracks in
    let claims = s.parts.tracks.claims in
    let track = c.in_ok-track.track in
    let p = c.in_ok-track.ensures.ok in
    let us = changed_at ts p.at (with_waiting true) in
    let off = unkeyed_awake _ claims (get_or ts p.at no_track) (p.first.on no_track) in
    let g = sleeps ts p.at no_track p.first.within off in
    let some = awake_here ts p.at no_track p.first.within off in
    let room = ap (λ (x : SessionsState). x.room) c.queue_event.ensures in
    let machine = ap (λ (x : SessionsState). x.machine) c.queue_event.ensures in
    rw (p.tracks, p.claims) (
      room_asleep ts us (length s.parts.undelivered.items) _ _ _ _ g c.append_unseen.ensures.room (omega (arith, room)) c.self.invariant.0,
      kept_more s.parts.chronicle.entries c.append_unseen.new.self.entries (WaitForKey track) ts us s.parts.undelivered.items c.append_unseen.ensures.entries (λ w t i n k x. cc) refl (omega (arith, g.fed)) c.self.invariant.1,
      wait_at s.ids s.parts.chronicle.entries c.append_unseen.new.self.entries s.parts.chronicle.effects c.append_unseen.new.self.effects [] track p.at s.parts.sessions.machine c.queue_event.new.self.machine ts claims no_track c.self.invariant.2 c.self.invariant.3 p.first (p.id no_track) c.append_unseen.ensures.entries machine refl c.append_unseen.ensures.effects,
      c.self.invariant.3,
      out_plain s.ids s.parts.chronicle.entries c.append_unseen.new.self.entries (WaitForKey track) s.parts.chronicle.effects (world_of s.parts.sessions.machine ts) ts us claims claims c.self.invariant.2 c.self.invariant.4 c.append_unseen.ensures.entries (λ t. refl) (waiting_out ts p.at) (fewer_same claims),
    )

pub returns : goal.returns
returns c =
    let s = c.self.inside in
    let p = c.in_ok-track.ensures.ok in
    record {
      ok = search rules;
      first = rw (← c.self.view_is) (first_wait s.ids s.parts.chronicle.entries s.parts.chronicle.effects s.parts.sessions.machine s.parts.tracks.tracks s.parts.tracks.claims p.at c.in_ok-track.track no_track c.self.invariant.2 c.self.invariant.3 p.first (p.id no_track));
      err = tt;
      not_waiting = tt;
    }
