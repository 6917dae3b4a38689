use Rattle.std.proofs.Common.{◌≡◌, ◌∙◌, ◌++◌, ◌∷◌, [], List, Some, ap, sym, subst, refl}
use Rattle.std.proofs.lemmas.Option.{slice_get-get_or}
use Rattle.std.specs.Prelude.{slice_get}
use Rattle.std.specs.List.{filter}
use Rattle.key_claims.specs.declared.slots.Generation.{Generation}
use Rattle.key_claims.specs.declared.slots.Slot.{Slot}
use Rattle.key_claims.specs.TracksState.{ClaimState}
use Rattle.key_claims.specs.SlotsKept.{SlotsKept}
use Rattle.key_claims.specs.Slots.{KeyPlace, NoneOf, is_current, claims_in}
use Rattle.key_claims.specs.Holds.{claim_of, IsPut}
use Rattle.key_claims.proofs.Revokes.{key_there}
use Rattle.key_claims.proofs.Holds.{claims_held, claims_put, put_there, kept_slot, kept_put}
use Rattle.key_claims.proofs.Deliveries.{claims_current, kept_filter, on_err}
use Rattle.key_claims.proofs.claims.Claims.hold.Goals as goal

pub invariant_of-self : goal.invariant_of-self
invariant_of-self c =
    let gs = c.self.inside.generations.items in
    let ss = c.self.inside.slots.items in
    let left : c.reserve.new.self.items ≡ filter (is_current gs) ss = c.in_err-reserve.ensures.items ∙ (rw c.deref.ensures.value at c.drop_ended.ensures) in
    subst (λ (xs : List Slot). SlotsKept gs xs) (sym left) (kept_filter (is_current gs) gs ss c.self.invariant)

pub returns-in_err-reserve-clause-err : goal.returns-in_err-reserve-clause-err
returns-in_err-reserve-clause-err c =
    let gs = c.self.inside.generations.items in
    let ss = c.self.inside.slots.items in
    let left : c.reserve.new.self.items ≡ filter (is_current gs) ss = c.in_err-reserve.ensures.items ∙ (rw c.deref.ensures.value at c.drop_ended.ensures) in
    on_err c.from_residual.result (ap (λ (xs : List Slot). claims_in gs xs) left ∙ (claims_current gs ss ∙ c.self.view_is))

pub invariant_of-self-in-Some : goal.invariant_of-self-in-Some
invariant_of-self-in-Some c =
    let gs = c.self.inside.generations.items in
    let ss = c.self.inside.slots.items in
    let left : c.reserve.new.self.items ≡ filter (is_current gs) ss = c.in_ok-reserve.ensures.items ∙ (rw c.deref.ensures.value at c.drop_ended.ensures) in
    let g = c.index.result.now in
    let known : KeyPlace gs c.args.session c.args.kid.now (Some c.in-Some.at) = rw (c.deref-2.ensures.value, c.bytes.ensures.value) at c.in-Some.ensures in
    let there : slice_get gs c.in-Some.at ≡ Some g = slice_get-get_or gs c.in-Some.at g known.0 ∙ ap Some (sym c.index.ensures) in
    rw (c.push_reserved.ensures.items, left, c.slot_with.ensures) (kept_slot gs (filter (is_current gs) ss) c.args.claim c.in-Some.at g.number g there refl (kept_filter (is_current gs) gs ss c.self.invariant))

pub returns-in-Some-clause-ok : goal.returns-in-Some-clause-ok
returns-in-Some-clause-ok c =
    let gs = c.self.inside.generations.items in
    let ss = c.self.inside.slots.items in
    let left : c.reserve.new.self.items ≡ filter (is_current gs) ss = c.in_ok-reserve.ensures.items ∙ (rw c.deref.ensures.value at c.drop_ended.ensures) in
    let g = c.index.result.now in
    let known : KeyPlace gs c.args.session c.args.kid.now (Some c.in-Some.at) = rw (c.deref-2.ensures.value, c.bytes.ensures.value) at c.in-Some.ensures in
    let there : slice_get gs c.in-Some.at ≡ Some g = slice_get-get_or gs c.in-Some.at g known.0 ∙ ap Some (sym c.index.ensures) in
    rw (← c.self.view_is, c.push_reserved.ensures.items, left, c.slot_with.ensures) (claims_held gs (filter (is_current gs) ss) c.args.claim c.in-Some.at g.number c.args.session c.args.kid.now g there refl (key_there gs c.in-Some.at c.args.session c.args.kid.now g known there) ∙ ap (λ (cs : List ClaimState). cs ++ claim_of c.args.claim c.args.session c.args.kid.now ∷ []) (claims_current gs ss))

pub invariant_of-self-in_err-copy-in-None : goal.invariant_of-self-in_err-copy-in-None
invariant_of-self-in_err-copy-in-None c =
    let gs = c.self.inside.generations.items in
    let ss = c.self.inside.slots.items in
    let left : c.reserve.new.self.items ≡ filter (is_current gs) ss = c.in_ok-reserve.ensures.items ∙ (rw c.deref.ensures.value at c.drop_ended.ensures) in
    subst (λ (xs : List Slot). SlotsKept gs xs) (sym left) (kept_filter (is_current gs) gs ss c.self.invariant)

pub returns-in_err-copy-in-None-clause-err : goal.returns-in_err-copy-in-None-clause-err
returns-in_err-copy-in-None-clause-err c =
    let gs = c.self.inside.generations.items in
    let ss = c.self.inside.slots.items in
    let left : c.reserve.new.self.items ≡ filter (is_current gs) ss = c.in_ok-reserve.ensures.items ∙ (rw c.deref.ensures.value at c.drop_ended.ensures) in
    on_err c.from_residual-in_err-copy-in-None.result (ap (λ (xs : List Slot). claims_in gs xs) left ∙ (claims_current gs ss ∙ c.self.view_is))

pub invariant_of-self-in_err-at-in-None : goal.invariant_of-self-in_err-at-in-None
invariant_of-self-in_err-at-in-None c =
    let gs = c.self.inside.generations.items in
    let ss = c.self.inside.slots.items in
    let left : c.reserve.new.self.items ≡ filter (is_current gs) ss = c.in_ok-reserve.ensures.items ∙ (rw c.deref.ensures.value at c.drop_ended.ensures) in
    let same : c.put_key.new.generations.items ≡ gs = c.in_err-at-in-None.ensures.err in
    rw (same, left) (kept_filter (is_current gs) gs ss c.self.invariant)

pub returns-in_err-at-in-None-clause-err : goal.returns-in_err-at-in-None-clause-err
returns-in_err-at-in-None-clause-err c =
    let gs = c.self.inside.generations.items in
    let ss = c.self.inside.slots.items in
    let left : c.reserve.new.self.items ≡ filter (is_current gs) ss = c.in_ok-reserve.ensures.items ∙ (rw c.deref.ensures.value at c.drop_ended.ensures) in
    let same : c.put_key.new.generations.items ≡ gs = c.in_err-at-in-None.ensures.err in
    on_err c.from_residual-in_err-at-in-None.result (ap (λ (hs : List Generation). claims_in hs c.reserve.new.self.items) same ∙ (ap (λ (xs : List Slot). claims_in gs xs) left ∙ (claims_current gs ss ∙ c.self.view_is)))

pub invariant_of-self-in-None : goal.invariant_of-self-in-None
invariant_of-self-in-None c =
    let gs = c.self.inside.generations.items in
    let ss = c.self.inside.slots.items in
    let hs = c.put_key.new.generations.items in
    let left : c.reserve.new.self.items ≡ filter (is_current gs) ss = c.in_ok-reserve.ensures.items ∙ (rw c.deref.ensures.value at c.drop_ended.ensures) in
    let g : Generation = record { session = c.args.session; kid = c.args.kid.now; number = 0 } in
    let none : NoneOf gs c.args.session c.args.kid.now = rw (c.deref-2.ensures.value, c.bytes.ensures.value) at c.in-None.ensures in
    let put : IsPut gs (filter (is_current gs) ss) g c.in_ok-at-in-None.at hs = rw (c.in_ok-copy-in-None.ensures, c.deref-in-None.ensures.value, left) at c.in_ok-at-in-None.ensures.ok in
    rw (c.push_reserved-in-None.ensures.items, left, c.slot_with-in-None.ensures) (kept_slot hs (filter (is_current gs) ss) c.args.claim c.in_ok-at-in-None.at 0 g (put_there gs hs (filter (is_current gs) ss) g c.in_ok-at-in-None.at put) refl (kept_put gs hs (filter (is_current gs) ss) g c.in_ok-at-in-None.at none put (kept_filter (is_current gs) gs ss c.self.invariant)))

pub returns-in_ok-at-in-None-clause-ok : goal.returns-in_ok-at-in-None-clause-ok
returns-in_ok-at-in-None-clause-ok c =
    let gs = c.self.inside.generations.items in
    let ss = c.self.inside.slots.items in
    let hs = c.put_key.new.generations.items in
    let left : c.reserve.new.self.items ≡ filter (is_current gs) ss = c.in_ok-reserve.ensures.items ∙ (rw c.deref.ensures.value at c.drop_ended.ensures) in
    let g : Generation = record { session = c.args.session; kid = c.args.kid.now; number = 0 } in
    let put : IsPut gs (filter (is_current gs) ss) g c.in_ok-at-in-None.at hs = rw (c.in_ok-copy-in-None.ensures, c.deref-in-None.ensures.value, left) at c.in_ok-at-in-None.ensures.ok in
    rw (← c.self.view_is, c.push_reserved-in-None.ensures.items, left, c.slot_with-in-None.ensures)
    (claims_held hs (filter (is_current gs) ss) c.args.claim c.in_ok-at-in-None.at 0 c.args.session c.args.kid.now g (put_there gs hs (filter (is_current gs) ss) g c.in_ok-at-in-None.at put) refl (record { session_is = refl; kid_is = refl })
    ∙ ap (λ (cs : List ClaimState). cs ++ claim_of c.args.claim c.args.session c.args.kid.now ∷ []) (claims_put gs hs (filter (is_current gs) ss) g c.in_ok-at-in-None.at put (kept_filter (is_current gs) gs ss c.self.invariant).behind ∙ claims_current gs ss))
