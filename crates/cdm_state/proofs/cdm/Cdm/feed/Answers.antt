use Rattle.std.proofs.Common.{[], ◌≡◌, ◌++◌, ◌∙◌, List, map, refl, length, ap, arith}
use Rattle.std.specs.List.{sum_by}
use Rattle.eme_types.specs.Fed.{part_samples}
use Rattle.eme_types.specs.declared.call.Event.{Event}
use Rattle.eme_types.specs.declared.entry.Entry.TheVariants.{Feed}
use Rattle.task_queue.specs.declared.work.Task.{Task as Queued}
use Rattle.task_queue.specs.declared.work.Task.TheVariants.{Fire}
use Rattle.key_sessions.specs.Machine.{Machine}
use Rattle.key_sessions.specs.SessionsState.{SessionsState}
use Rattle.key_claims.specs.Changes.{feed_all}
use Rattle.cdm_state.specs.After.{fire_encrypted}
use Rattle.cdm_state.specs.Feeds.{parts_in, inits_in}
use Rattle.cdm_state.specs.History.{samples_in}
use Rattle.cdm_state.specs.Kept.{world_of}
use Rattle.cdm_state.specs.declared.parts.Parts.{Parts}
use Rattle.cdm_state.proofs.TrackLists.{grown_all, fed_states}
use Rattle.cdm_state.proofs.Fired.{fired_machine, fired_room, fires}
use Rattle.cdm_state.proofs.Places.{room_fed, kept_fed, fed_limit, same_count}
use Rattle.cdm_state.proofs.Onward.{legal_feed}
use Rattle.cdm_state.proofs.ShownOn.{fed_out}
use Rattle.cdm_state.proofs.OutOn.{out_plain, fewer_same}
use Rattle.cdm_state.proofs.cdm.Cdm.feed.Goals as goal

pub take_in-requires : goal.take_in-requires
take_in-requires c =
    let s = c.self.inside in
    let n = same_count c.args.fragment in
    let most = fed_limit s.ids s.parts.chronicle.entries c.args.fragment c.self.invariant.1.limit (rw (← c.self.view_is) at c.requires) in
    omega (arith, n, most, c.self.invariant.1.fed)

pub invariant_of-self-2 : goal.invariant_of-self-2
invariant_of-self-2 c =
    let s = c.self.inside in
    let ts = s.parts.tracks.tracks in
    let claims = s.parts.tracks.claims in
    let f = c.args.fragment in
    let parts = parts_in f in
    let us = feed_all ts parts in
    let o = c.in-Ok.ensures in
    let n = same_count f in
    let x = sum_by part_samples parts in
    let g = grown_all ts parts in
    let events = c.in-Ok.events.items in
    let m : c.take_in.new.self.sessions.machine ≡ s.parts.sessions.machine = ap (λ (q : Parts). q.sessions.machine) o.rest in
    let fire : map Fire events ≡ map fire_encrypted (inits_in f) = ap (λ (es : List Event). map Fire es) o.events ∙ fires (inits_in f) in
    let queued : c.queue_events.new.sessions.machine ≡ record (s.parts.sessions.machine) { tasks = s.parts.sessions.machine.tasks ++ map fire_encrypted (inits_in f) } = ap (λ (q : SessionsState). q.machine) c.queue_events.ensures ∙ (fired_machine events c.take_in.new.self.sessions ∙ (ap (λ (k : Machine). let v : Machine = record k { tasks = k.tasks ++ map Fire events } in v) m ∙ ap (λ (xs : List Queued). let v : Machine = record (s.parts.sessions.machine) { tasks = s.parts.sessions.machine.tasks ++ xs } in v) fire)) in
    let room = ap (λ (q : SessionsState). q.room) c.queue_events.ensures ∙ fired_room events c.take_in.new.self.sessions in
    let is = rw o.rest at c.append_unseen.ensures.entries in
    rw (o.rest, o.fed) (
      room_fed c.take_in.new.self.chronicle ts us (length s.parts.undelivered.items) x _ _ g o.room c.append_unseen.ensures.room (omega (arith, room, o.events_room)),
      kept_fed s.parts.chronicle.entries c.append_unseen.new.self.entries (Feed c.args.line f) ts us s.parts.undelivered.items (samples_in f) is (λ w t i n k x. cc) refl (fed_limit s.ids s.parts.chronicle.entries f c.self.invariant.1.limit (rw (← c.self.view_is) at c.requires)) (omega (arith, g.fed, n)) c.self.invariant.1,
      legal_feed s.ids s.parts.chronicle.entries c.append_unseen.new.self.entries s.parts.chronicle.effects c.append_unseen.new.self.effects [] c.args.line f s.parts.sessions.machine c.queue_events.new.sessions.machine ts us claims c.self.invariant.2 (rw (← c.self.view_is) at c.requires) is queued (fed_states ts parts) refl (rw o.rest at c.append_unseen.ensures.effects),
      c.self.invariant.3,
      out_plain s.ids s.parts.chronicle.entries c.append_unseen.new.self.entries (Feed c.args.line f) s.parts.chronicle.effects (world_of s.parts.sessions.machine ts) ts us claims claims c.self.invariant.2 c.self.invariant.4 is (λ t. refl) (fed_out ts parts) (fewer_same claims),
    )
