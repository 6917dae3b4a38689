use Rattle.std.proofs.Common.{◌≡◌, ◌∙◌, IsSome, Some, map, sym, ap, rules}
use Rattle.key_statuses.specs.Index.{with_number}
use Rattle.key_statuses.proofs.Numbers.{with_some, with_ascending}
use Rattle.key_statuses.proofs.Holders.{entry_of, map_same, renews_index, some_held, set_some, set_none, on_err}
use Rattle.key_statuses.proofs.index.KeyIndex.add.Goals as goal

pub invariant_of-self : goal.invariant_of-self
invariant_of-self c =
    let h = c.get_mut.follows.holds c.add_number.new.numbers in
    rw (h.0, map_same (λ v. v.items) _ c.self.inside.sessions.entries c.in-Some.numbers.now c.add_number.new.numbers (sym c.in-Some.ensures.value) c.in_err-add_number-in-Some.ensures.err) c.self.invariant

pub returns-in_err-add_number-in-Some-clause-err : goal.returns-in_err-add_number-in-Some-clause-err
returns-in_err-add_number-in-Some-clause-err c =
    let h = c.get_mut.follows.holds c.add_number.new.numbers in
    on_err _ _ (ap (map (entry_of (λ v. v.items))) h.0 ∙ map_same (λ v. v.items) _ c.self.inside.sessions.entries c.in-Some.numbers.now c.add_number.new.numbers (sym c.in-Some.ensures.value) c.in_err-add_number-in-Some.ensures.err ∙ c.self.view_is)

pub invariant_of-self-in-Some : goal.invariant_of-self-in-Some
invariant_of-self-in-Some c =
    let h = c.get_mut.follows.holds c.add_number.new.numbers in
    let held = some_held (λ v. v.items) c.self.inside.sessions.entries c.args.kid.now c.in-Some.numbers.now c.in-Some.ensures.value c.self.invariant in
    renews_index (λ v. v.items) c.args.kid.now c.self.inside.sessions.entries _ (Some c.add_number.new.numbers) (h.3 (search rules)).0 (rw c.in_ok-add_number-in-Some.ensures.ok (with_some c.args.session c.in-Some.numbers.now.items, with_ascending c.args.session c.in-Some.numbers.now.items held.1)) c.self.invariant

pub invariant_of-self-in-None : goal.invariant_of-self-in-None
invariant_of-self-in-None c = renews_index (λ v. v.items) c.args.kid.now c.self.inside.sessions.entries _ (Some c.push.new.self) (rw (c.get_mut.follows.holds-at-none, c.in_ok-copy-in-None.ensures) at c.in_ok-insert-in-None.ensures.updates.0) (search rules) c.self.invariant

pub returns-in_ok-add_number-in-Some-clause-ok : goal.returns-in_ok-add_number-in-Some-clause-ok
returns-in_ok-add_number-in-Some-clause-ok c =
    let h = c.get_mut.follows.holds c.add_number.new.numbers in
    rw (← c.self.view_is) (set_some (λ v. v.items) c.args.kid.now c.self.inside.sessions.entries _ c.in-Some.numbers.now c.add_number.new.numbers (with_number c.args.session) c.in-Some.ensures.value (h.3 (search rules)).0 c.in_ok-add_number-in-Some.ensures.ok)

pub returns-in_ok-insert-in-None-clause-ok : goal.returns-in_ok-insert-in-None-clause-ok
returns-in_ok-insert-in-None-clause-ok c = rw (← c.self.view_is) (set_none (λ v. v.items) c.args.kid.now c.self.inside.sessions.entries _ c.push.new.self (with_number c.args.session) c.in-None.ensures.value (rw (c.get_mut.follows.holds-at-none, c.in_ok-copy-in-None.ensures) at c.in_ok-insert-in-None.ensures.updates.0) (search rules))
