use Rattle.std.proofs.Common.{[], ℕ, refl, length, ap, arith, List}
use Rattle.eme_types.specs.declared.entry.Entry.TheVariants.{Deliver}
use Rattle.eme_types.specs.declared.entry.Verdict.TheVariants.{Taken, Stale}
use Rattle.key_claims.specs.Claims.{give_clear}
use Rattle.cdm_state.specs.Kept.{world_of}
use Rattle.cdm_state.proofs.Places.{room_spent, kept_spent, some_in, one_fewer}
use Rattle.cdm_state.proofs.Legal.{legal_taken, legal_stale}
use Rattle.cdm_state.proofs.Claiming.{is_live, not_live}
use Rattle.cdm_state.proofs.ShownOn.{same_out}
use Rattle.cdm_state.proofs.OutOn.{out_plain, out_taken, fewer_same}
use Rattle.cdm_state.proofs.InHand.{in_hand}
use Rattle.cdm_state.proofs.cdm.Cdm.deliver.Goals as goal

pub deliver-requires-clause-in_hand : goal.deliver-requires-clause-in_hand
deliver-requires-clause-in_hand c =
    let s = c.self.inside in
    let o = rw (← c.self.view_is) at c.requires.open_ in
    in_hand s.ids s.parts.chronicle.entries s.parts.chronicle.effects s.parts.sessions.machine s.parts.tracks.tracks s.parts.tracks.claims c.args.claim c.self.invariant.2 o

pub append_unseen-requires : goal.append_unseen-requires
append_unseen-requires c =
    let s = c.self.inside in
    let o = rw (← c.self.view_is) at c.requires.open_ in
    omega (arith, some_in s.parts.undelivered.items c.args.claim.place (c.self.invariant.1.waits c.args.claim.place o.waits), c.self.invariant.0.entries)

pub append_unseen-requires-in-Stale : goal.append_unseen-requires-in-Stale
append_unseen-requires-in-Stale c =
    let s = c.self.inside in
    let o = rw (← c.self.view_is) at c.requires.open_ in
    omega (arith, some_in s.parts.undelivered.items c.args.claim.place (c.self.invariant.1.waits c.args.claim.place o.waits), c.self.invariant.0.entries)

pub invariant_of-self : goal.invariant_of-self
invariant_of-self c =
    let s = c.self.inside in
    let ts = s.parts.tracks.tracks in
    let claims = s.parts.tracks.claims in
    let place = c.args.claim.place in
    let o = rw (← c.self.view_is) at c.requires.open_ in
    let fewer = one_fewer s.parts.undelivered.items place (c.self.invariant.1.waits place o.waits) in
    let less = ap (λ (xs : List ℕ). length xs) c.close_place.ensures in
    rw c.in-Taken.ensures.1 (
      room_spent ts (length s.parts.undelivered.items) (length c.close_place.new.undelivered.items) _ _ _ (omega (arith, fewer, less)) c.append_unseen.ensures.room c.self.invariant.0,
      kept_spent s.parts.chronicle.entries c.append_unseen.new.self.entries (Deliver place Taken) ts s.parts.undelivered.items c.close_place.new.undelivered.items place c.append_unseen.ensures.entries (λ w t i n k x. cc) refl refl c.close_place.ensures c.self.invariant.1,
      legal_taken s.ids s.parts.chronicle.entries c.append_unseen.new.self.entries place c.args.clear s.parts.chronicle.effects c.append_unseen.new.self.effects [] (world_of s.parts.sessions.machine ts) (world_of s.parts.sessions.machine ts) claims (give_clear place c.args.clear claims) c.self.invariant.2 o.waits c.in-Taken.ensures.0 c.append_unseen.ensures.entries refl refl c.append_unseen.ensures.effects refl,
      c.self.invariant.3,
      out_taken s.ids s.parts.chronicle.entries c.append_unseen.new.self.entries s.parts.chronicle.effects (world_of s.parts.sessions.machine ts) ts claims (give_clear place c.args.clear claims) c.args.claim c.args.clear c.self.invariant.2 c.self.invariant.4 o.stands c.requires.clear c.append_unseen.ensures.entries refl,
    )

pub invariant_of-self-in-Stale : goal.invariant_of-self-in-Stale
invariant_of-self-in-Stale c =
    let s = c.self.inside in
    let ts = s.parts.tracks.tracks in
    let claims = s.parts.tracks.claims in
    let place = c.args.claim.place in
    let o = rw (← c.self.view_is) at c.requires.open_ in
    let fewer = one_fewer s.parts.undelivered.items place (c.self.invariant.1.waits place o.waits) in
    let less = ap (λ (xs : List ℕ). length xs) c.close_place.ensures in
    rw c.in-Stale.ensures.1 (
      room_spent ts (length s.parts.undelivered.items) (length c.close_place.new.undelivered.items) _ _ _ (omega (arith, fewer, less)) c.append_unseen-in-Stale.ensures.room c.self.invariant.0,
      kept_spent s.parts.chronicle.entries c.append_unseen-in-Stale.new.self.entries (Deliver place Stale) ts s.parts.undelivered.items c.close_place.new.undelivered.items place c.append_unseen-in-Stale.ensures.entries (λ w t i n k x. cc) refl refl c.close_place.ensures c.self.invariant.1,
      legal_stale s.ids s.parts.chronicle.entries c.append_unseen-in-Stale.new.self.entries place s.parts.chronicle.effects c.append_unseen-in-Stale.new.self.effects [] (world_of s.parts.sessions.machine ts) (world_of s.parts.sessions.machine ts) claims claims c.self.invariant.2 o.waits c.in-Stale.ensures.0 c.append_unseen-in-Stale.ensures.entries refl refl c.append_unseen-in-Stale.ensures.effects refl,
      c.self.invariant.3,
      out_plain s.ids s.parts.chronicle.entries c.append_unseen-in-Stale.new.self.entries (Deliver place Stale) s.parts.chronicle.effects (world_of s.parts.sessions.machine ts) ts ts claims claims c.self.invariant.2 c.self.invariant.4 c.append_unseen-in-Stale.ensures.entries (λ t. refl) (same_out ts) (fewer_same claims),
    )

pub returns-in-Taken : goal.returns-in-Taken
returns-in-Taken c =
    let s = c.self.inside in
    rw (← c.self.view_is, c.append_unseen.ensures.entries) (is_live s.ids s.parts.chronicle.entries c.args.claim.place s.parts.tracks.claims c.self.invariant.2.claims c.in-Taken.ensures.0, refl)

pub returns-in-Stale : goal.returns-in-Stale
returns-in-Stale c =
    let s = c.self.inside in
    rw (← c.self.view_is, c.append_unseen-in-Stale.ensures.entries) (not_live s.ids s.parts.chronicle.entries c.args.claim.place s.parts.tracks.claims c.self.invariant.2.claims c.in-Stale.ensures.0, refl, c.in-Stale.ensures.2)
