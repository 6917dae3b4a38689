use Rattle.std.proofs.Common.{◌≡◌, ◌∙◌, ◌∷◌, [], List, length, deque_items, ap, sym, arith, rules}
use Rattle.std.proofs.lemmas.List.Sums.{fold-append}
use Rattle.eme_types.specs.declared.call.Event.{Event}
use Rattle.key_sessions.specs.SessionsState.{SessionsState}
use Rattle.cdm_state.specs.Feeds.{fired}
use Rattle.cdm_state.proofs.feed.queue_events.Goals as goal

pub queue_event-requires : goal.queue_event-requires
queue_event-requires c =
    let rest : deque_items c.loop-event.event-iterator.rest ≡ c.in-Some.event ∷ deque_items c.next.new.self.rest = search rules in
    let n = ap (λ (es : List Event). length es) rest in
    omega (arith, n, c.loop-event.invariant.1)

pub loop-event-preserved : goal.loop-event-preserved
loop-event-preserved c =
    let rest : deque_items c.loop-event.event-iterator.rest ≡ c.in-Some.event ∷ deque_items c.next.new.self.rest = search rules in
    let n = ap (λ (es : List Event). length es) rest in
    let room = ap (λ (s : SessionsState). s.room) c.queue_event.ensures in (
      c.queue_event.ensures ∙ (ap (λ (s : SessionsState). fired s c.in-Some.event) c.loop-event.invariant.0 ∙ sym (fold-append fired c.args.sessions.now c.loop-event.yielded (c.in-Some.event ∷ []))),
      omega (arith, n, room, c.loop-event.invariant.1),
    )
