use Rattle.std.proofs.Common.{◌≡◌, ◌∙◌, [], length, ap, sym, map, arith, List, ℕ}
use Rattle.eme_types.specs.Fed.{are_distinct}
use Rattle.cdm_world.specs.Tracks.{empty_track}
use Rattle.key_sessions.specs.SessionsState.{SessionsState}
use Rattle.key_claims.specs.TracksState.{TracksState, track_of}
use Rattle.key_claims.specs.TrackValue.{all_fed}
use Rattle.cdm_state.specs.Chronicle.{ChronicleState}
use Rattle.cdm_state.specs.declared.parts.Parts.{Parts}
use Rattle.cdm_state.proofs.TrackLists.{awake_within, empty_states, empty_sums}
use Rattle.cdm_state.proofs.Places.{kept_new}
use Rattle.cdm_state.proofs.Onward.{legal_new}
use Rattle.cdm_state.proofs.OutOn.{out_new}
use Rattle.cdm_state.proofs.cdm.Cdm.new.Goals as goal

pub invariant_of-result : goal.invariant_of-result
invariant_of-result c =
    let t = c.in_ok-states.states in
    let ids : c.in_ok-ids.ids ≡ c.args.tracks.now = c.in_ok-ids.ensures in
    let is = c.in_ok-states.ensures in
    let n : length c.new-4.result.items ≡ 0 = ap (λ (xs : List ℕ). length xs) c.new-4.ensures.items in
    let h : c.new-2.result.entries ≡ [] = ap (λ (x : ChronicleState). x.entries) c.new-2.ensures in
    let room = c.in_ok-reserve.ensures.ok in
    let k = c.in_ok-reserve_events.ensures.ok in
    let states : map track_of t.tracks ≡ map empty_track c.in_ok-ids.ids = ap (λ (x : TracksState). map track_of x.tracks) is ∙ (empty_states c.args.tracks.now ∙ ap (λ (xs : List ℕ). map empty_track xs) (sym ids)) in
    let unfed : all_fed t.tracks ≡ 0 = ap (λ (x : TracksState). all_fed x.tracks) is ∙ (empty_sums c.args.tracks.now).1 in
    let unclaimed : t.claims ≡ [] = ap (λ (x : TracksState). x.claims) is in
    let machine = ap (λ (x : SessionsState). x.machine) c.in_ok-reserve_events.ensures.rest ∙ (ap (λ (x : Parts). x.sessions.machine) c.reserve.ensures.rest ∙ ap (λ (x : SessionsState). x.machine) c.new-3.ensures) in
    let count : c.len.result ≡ length t.tracks = rw c.reserve.ensures.rest at c.len.ensures.count in
    rw c.reserve.ensures.rest (
      record {
        entries = omega (arith, n, room, awake_within t.tracks);
        events = omega (arith, k, count, awake_within t.tracks);
      },
      kept_new c.new-2.result.entries t.tracks c.new-4.result.items h unfed,
      legal_new c.in_ok-ids.ids c.new-2.result.entries c.new-2.result.effects c.reserve_events.new.self.machine t.tracks t.claims h (ap (λ (x : ChronicleState). x.effects) c.new-2.ensures) machine states unclaimed,
      ap are_distinct ids ∙ c.requires.distinct,
      out_new c.in_ok-ids.ids c.new-2.result.entries t.tracks t.claims h states unclaimed,
    )
