use Rattle.std.proofs.Common.{rules, [], refl, get_or, length, arith}
use Rattle.eme_types.specs.declared.entry.Entry.TheVariants.{Publish}
use Rattle.key_claims.specs.Changes.{changed_at, more_out}
use Rattle.key_claims.proofs.Readiness.{ready_fed}
use Rattle.key_claims.proofs.Deliveries.{on_err}
use Rattle.cdm_state.proofs.TrackLists.{no_track, left_here, gives_out}
use Rattle.cdm_state.proofs.Places.{room_out, kept_more}
use Rattle.cdm_state.proofs.Onward.{publish_at}
use Rattle.cdm_state.proofs.FedOn.{no_publish}
use Rattle.cdm_state.proofs.First.{first_publish}
use Rattle.cdm_state.proofs.OutOn.{out_publish}
use Rattle.cdm_state.proofs.cdm.Cdm.publish.Goals as goal

pub returns-in_err-ready : goal.returns-in_err-ready
returns-in_err-ready c =
    let s = c.self.inside in
    record {
      ok = search rules;
      first = search rules;
      err = search rules;
      not_ready = on_err c.from_residual.result (rw (← c.self.view_is) (no_publish s.ids s.parts.chronicle.entries s.parts.chronicle.effects s.parts.sessions.machine s.parts.tracks.tracks s.parts.tracks.claims c.self.invariant.2 c.in_err-ready.ensures.not_ready));
    }

pub append_unseen-requires : goal.append_unseen-requires
append_unseen-requires c =
    let s = c.self.inside in
    let p = c.in_ok-ready.ensures.ok in
    let some = left_here s.parts.tracks.tracks p.at no_track p.first.within (ready_fed s.parts.tracks.claims (get_or s.parts.tracks.tracks p.at no_track) c.in_ok-ready.ready.place (p.first.on no_track)) in
    omega (arith, some, c.self.invariant.0.entries)

pub invariant_of-self-2 : goal.invariant_of-self-2
invariant_of-self-2 c =
    let s = c.self.inside in
    let ts = s.parts.tracks.tracks in
    let claims = s.parts.tracks.claims in
    let r = c.in_ok-ready.ready in
    let p = c.in_ok-ready.ensures.ok in
    let g = gives_out ts p.at p.clear no_track p.first.within (ready_fed claims (get_or ts p.at no_track) r.place (p.first.on no_track)) in
    rw p.tracks (
      room_out ts (changed_at ts p.at (more_out p.clear)) (length s.parts.undelivered.items) _ _ _ g c.append_unseen.ensures.room c.self.invariant.0,
      kept_more s.parts.chronicle.entries c.append_unseen.new.self.entries (Publish r.track r.index r.place) ts (changed_at ts p.at (more_out p.clear)) s.parts.undelivered.items c.append_unseen.ensures.entries (λ w t i n k x. cc) refl (omega (arith, g.fed)) c.self.invariant.1,
      publish_at s.ids s.parts.chronicle.entries c.append_unseen.new.self.entries s.parts.chronicle.effects c.append_unseen.new.self.effects [] r.track r.index p.at r.place p.clear s.parts.sessions.machine ts claims c.publish_ready.new.self.claims no_track c.self.invariant.2 c.self.invariant.3 p.first (p.next.track_ no_track) (p.next.index_ no_track) c.append_unseen.ensures.entries refl c.append_unseen.ensures.effects p.claims,
      c.self.invariant.3,
      out_publish s.ids s.parts.chronicle.entries c.append_unseen.new.self.entries s.parts.chronicle.effects s.parts.sessions.machine ts claims c.publish_ready.new.self.claims r.track r.index p.at r.place p.clear c.self.invariant.2 c.self.invariant.3 c.self.invariant.4 p.first (p.next.track_ no_track) (p.next.index_ no_track) p.delivered c.append_unseen.ensures.entries p.claims,
    )

pub returns : goal.returns
returns c =
    let s = c.self.inside in
    let p = c.in_ok-ready.ensures.ok in
    record {
      ok = (c.in_ok-ready.ready.place, rw (← c.self.view_is, c.append_unseen.ensures.entries) refl);
      first = rw (← c.self.view_is) (first_publish s.ids s.parts.chronicle.entries s.parts.chronicle.effects s.parts.sessions.machine s.parts.tracks.tracks s.parts.tracks.claims p.at c.in_ok-ready.ready.place c.in_ok-ready.ready.track no_track c.self.invariant.2 c.self.invariant.3 p.first (p.next.track_ no_track));
      err = tt;
      not_ready = tt;
    }
