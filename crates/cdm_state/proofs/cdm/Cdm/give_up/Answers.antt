use Rattle.std.proofs.Common.{[], ℕ, refl, length, ap, arith, List}
use Rattle.std.specs.Prelude.{filter}
use Rattle.eme_types.specs.declared.entry.Entry.TheVariants.{GiveUp}
use Rattle.key_claims.specs.Claims.{is_other}
use Rattle.cdm_state.specs.Kept.{world_of}
use Rattle.cdm_state.proofs.Places.{room_spent, kept_spent, some_in, one_fewer}
use Rattle.cdm_state.proofs.Onward.{legal_give_up}
use Rattle.cdm_state.proofs.ShownOn.{same_out}
use Rattle.cdm_state.proofs.OutOn.{out_plain, fewer_filter}
use Rattle.cdm_state.proofs.cdm.Cdm.give_up.Goals as goal

pub append_unseen-requires : goal.append_unseen-requires
append_unseen-requires c =
    let s = c.self.inside in
    let o = rw (← c.self.view_is) at c.requires in
    omega (arith, some_in s.parts.undelivered.items c.args.claim.place (c.self.invariant.1.waits c.args.claim.place o.waits), c.self.invariant.0.entries)

pub invariant_of-self : goal.invariant_of-self
invariant_of-self c =
    let s = c.self.inside in
    let ts = s.parts.tracks.tracks in
    let claims = s.parts.tracks.claims in
    let place = c.args.claim.place in
    let o = rw (← c.self.view_is) at c.requires in
    let fewer = one_fewer s.parts.undelivered.items place (c.self.invariant.1.waits place o.waits) in
    let less = ap (λ (xs : List ℕ). length xs) c.close_place.ensures in
    rw c.give_up.ensures (
      room_spent ts (length s.parts.undelivered.items) (length c.close_place.new.undelivered.items) _ _ _ (omega (arith, fewer, less)) c.append_unseen.ensures.room c.self.invariant.0,
      kept_spent s.parts.chronicle.entries c.append_unseen.new.self.entries (GiveUp place) ts s.parts.undelivered.items c.close_place.new.undelivered.items place c.append_unseen.ensures.entries (λ w t i n k x. cc) refl refl c.close_place.ensures c.self.invariant.1,
      legal_give_up s.ids s.parts.chronicle.entries c.append_unseen.new.self.entries s.parts.chronicle.effects c.append_unseen.new.self.effects [] place s.parts.sessions.machine ts claims (filter (is_other place) claims) c.self.invariant.2 o.waits c.append_unseen.ensures.entries refl c.append_unseen.ensures.effects refl,
      c.self.invariant.3,
      out_plain s.ids s.parts.chronicle.entries c.append_unseen.new.self.entries (GiveUp place) s.parts.chronicle.effects (world_of s.parts.sessions.machine ts) ts ts claims (filter (is_other place) claims) c.self.invariant.2 c.self.invariant.4 c.append_unseen.ensures.entries (λ t. refl) (same_out ts) (fewer_filter (is_other place) claims _ refl),
    )
