use Rattle.std.proofs.Common.{rules, [], refl, get_or, length, arith}
use Rattle.eme_types.specs.declared.entry.Entry.TheVariants.{PassClear}
use Rattle.key_claims.specs.Changes.{changed_at, more_out}
use Rattle.key_claims.proofs.Readiness.{head_fed}
use Rattle.key_claims.proofs.Deliveries.{on_err}
use Rattle.cdm_state.proofs.TrackLists.{no_track, left_here, gives_out}
use Rattle.cdm_state.proofs.Places.{room_out, kept_more}
use Rattle.cdm_state.proofs.Onward.{pass_at}
use Rattle.cdm_state.proofs.Exact.{no_pass}
use Rattle.cdm_state.proofs.First.{first_pass}
use Rattle.cdm_state.proofs.OutOn.{out_pass}
use Rattle.cdm_state.proofs.cdm.Cdm.pass_clear.Goals as goal

pub returns-in_err-next : goal.returns-in_err-next
returns-in_err-next c =
    let s = c.self.inside in
    record {
      ok = search rules;
      first = search rules;
      err = search rules;
      not_ready = on_err c.from_residual.result (rw (← c.self.view_is) (no_pass s.ids s.parts.chronicle.entries s.parts.chronicle.effects s.parts.sessions.machine s.parts.tracks.tracks s.parts.tracks.claims c.self.invariant.2 c.in_err-next.ensures.not_ready));
    }

pub append_unseen-requires : goal.append_unseen-requires
append_unseen-requires c =
    let s = c.self.inside in
    let p = c.in_ok-next.ensures.ok in
    let some = left_here s.parts.tracks.tracks p.at no_track p.first.within (head_fed (get_or s.parts.tracks.tracks p.at no_track) p.sample (p.head_ no_track)) in
    omega (arith, some, c.self.invariant.0.entries)

pub invariant_of-self-2 : goal.invariant_of-self-2
invariant_of-self-2 c =
    let s = c.self.inside in
    let ts = s.parts.tracks.tracks in
    let claims = s.parts.tracks.claims in
    let next = c.in_ok-next.next in
    let p = c.in_ok-next.ensures.ok in
    let g = gives_out ts p.at p.sample.bytes no_track p.first.within (head_fed (get_or ts p.at no_track) p.sample (p.head_ no_track)) in
    rw (p.tracks, p.claims) (
      room_out ts (changed_at ts p.at (more_out p.sample.bytes)) (length s.parts.undelivered.items) _ _ _ g c.append_unseen.ensures.room c.self.invariant.0,
      kept_more s.parts.chronicle.entries c.append_unseen.new.self.entries (PassClear next.track next.index) ts (changed_at ts p.at (more_out p.sample.bytes)) s.parts.undelivered.items c.append_unseen.ensures.entries (λ w t i n k x. cc) refl (omega (arith, g.fed)) c.self.invariant.1,
      pass_at s.ids s.parts.chronicle.entries c.append_unseen.new.self.entries s.parts.chronicle.effects c.append_unseen.new.self.effects [] next.track next.index p.at p.sample.bytes s.parts.sessions.machine ts claims no_track c.self.invariant.2 c.self.invariant.3 p.first (p.next.track_ no_track) (p.next.index_ no_track) c.append_unseen.ensures.entries refl c.append_unseen.ensures.effects,
      c.self.invariant.3,
      out_pass s.ids s.parts.chronicle.entries c.append_unseen.new.self.entries s.parts.chronicle.effects s.parts.sessions.machine ts claims next.track next.index p.at p.sample c.self.invariant.2 c.self.invariant.3 c.self.invariant.4 p.first (p.next.track_ no_track) (p.next.index_ no_track) (p.head_ no_track) c.append_unseen.ensures.entries,
    )

pub returns : goal.returns
returns c =
    let s = c.self.inside in
    let p = c.in_ok-next.ensures.ok in
    record {
      ok = search rules;
      first = rw (← c.self.view_is) (first_pass s.ids s.parts.chronicle.entries s.parts.chronicle.effects s.parts.sessions.machine s.parts.tracks.tracks s.parts.tracks.claims p.at c.in_ok-next.next.track no_track c.self.invariant.2 c.self.invariant.3 p.first (p.next.track_ no_track));
      err = tt;
      not_ready = tt;
    }
