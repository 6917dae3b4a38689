use Rattle.std.proofs.Common.{◌≡◌, ◌∙◌, ap, sym, subst, List}
use Rattle.std.specs.List.{filter}
use Rattle.key_claims.specs.declared.slots.Slot.{Slot}
use Rattle.key_claims.specs.SlotsKept.{SlotsKept}
use Rattle.key_claims.specs.Slots.{is_other_slot, claims_in, IsSlotOf}
use Rattle.key_claims.proofs.Deliveries.{claims_other_place, kept_filter, filter_removed, clear_none}
use Rattle.key_claims.proofs.claims.Claims.take.Goals as goal

pub invariant_of-self : goal.invariant_of-self
invariant_of-self c = subst (λ (xs : List Slot). SlotsKept c.self.inside.generations.items xs) (sym c.drop_place.ensures) (kept_filter (is_other_slot c.args.place) c.self.inside.generations.items c.self.inside.slots.items c.self.invariant)

pub returns-in-None-clause-clear : goal.returns-in-None-clause-clear
returns-in-None-clause-clear c = rw (← c.self.view_is) (sym (clear_none c.args.place (claims_in c.self.inside.generations.items c.self.inside.slots.items) (rw (c.deref.ensures.value, c.deref-2.ensures.value) at c.in-None.ensures)))

pub returns-in-None-clause-rest : goal.returns-in-None-clause-rest
returns-in-None-clause-rest c = rw (← c.self.view_is) (ap (λ (xs : List Slot). claims_in c.self.inside.generations.items xs) c.drop_place.ensures ∙ claims_other_place c.self.inside.generations.items c.self.inside.slots.items c.args.place)

pub invariant_of-self-in-Some : goal.invariant_of-self-in-Some
invariant_of-self-in-Some c =
    let gs = c.self.inside.generations.items in
    let ss = c.self.inside.slots.items in
    let found : IsSlotOf gs ss c.args.place c.in-Some.at = rw (c.deref.ensures.value, c.deref-2.ensures.value) at c.in-Some.ensures in
    let left : c.drop_place-in-Some.new.slots.items ≡ filter (is_other_slot c.args.place) ss = c.drop_place-in-Some.ensures ∙ (ap (λ (xs : List Slot). filter (is_other_slot c.args.place) xs) c.remove-slot.ensures.items ∙ filter_removed ss c.in-Some.at c.args.place c.remove-slot.result found.within (found.place_ c.remove-slot.result)) in
    subst (λ (xs : List Slot). SlotsKept gs xs) (sym left) (kept_filter (is_other_slot c.args.place) gs ss c.self.invariant)

pub returns-in-Some-clause-rest : goal.returns-in-Some-clause-rest
returns-in-Some-clause-rest c =
    let gs = c.self.inside.generations.items in
    let ss = c.self.inside.slots.items in
    let found : IsSlotOf gs ss c.args.place c.in-Some.at = rw (c.deref.ensures.value, c.deref-2.ensures.value) at c.in-Some.ensures in
    let left : c.drop_place-in-Some.new.slots.items ≡ filter (is_other_slot c.args.place) ss = c.drop_place-in-Some.ensures ∙ (ap (λ (xs : List Slot). filter (is_other_slot c.args.place) xs) c.remove-slot.ensures.items ∙ filter_removed ss c.in-Some.at c.args.place c.remove-slot.result found.within (found.place_ c.remove-slot.result)) in
    rw (← c.self.view_is) (ap (λ (xs : List Slot). claims_in gs xs) left ∙ claims_other_place gs ss c.args.place)
