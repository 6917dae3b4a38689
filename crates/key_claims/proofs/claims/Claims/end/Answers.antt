use Rattle.std.proofs.Common.{◌∙◌, ap, sym, subst, List}
use Rattle.key_claims.specs.declared.slots.Slot.{Slot}
use Rattle.key_claims.specs.SlotsKept.{SlotsKept}
use Rattle.key_claims.specs.Slots.{is_other_slot, claims_in}
use Rattle.key_claims.proofs.Deliveries.{claims_other_place, kept_filter}
use Rattle.key_claims.proofs.claims.Claims.end.Goals as goal

pub invariant_of-self : goal.invariant_of-self
invariant_of-self c = subst (λ (xs : List Slot). SlotsKept c.self.inside.generations.items xs) (sym c.drop_place.ensures) (kept_filter (is_other_slot c.args.place) c.self.inside.generations.items c.self.inside.slots.items c.self.invariant)

pub returns : goal.returns
returns c = rw (← c.self.view_is) (ap (λ (xs : List Slot). claims_in c.self.inside.generations.items xs) c.drop_place.ensures ∙ claims_other_place c.self.inside.generations.items c.self.inside.slots.items c.args.place)
