use Rattle.std.proofs.Common.{◌≡◌, ◌∙◌, [], Some, None, sym, rules}
use Rattle.key_statuses.specs.Index.{without_number}
use Rattle.key_statuses.proofs.Numbers.{without_ascending}
use Rattle.key_statuses.proofs.Holders.{renews_index, renews_twice, some_held, set_some, set_gone, less_none}
use Rattle.key_statuses.proofs.index.KeyIndex.take_out.Goals as goal
use Rattle.key_statuses.proofs.index.KeyIndex.take_out.Goals.{in-Some-1, in-None-1}

pub returns-in_default : goal.returns-in_default
returns-in_default c = rw (c.get_mut.follows.holds-at-none, ← c.self.view_is) (less_none (λ v. v.items) c.self.inside.sessions.entries c.args.kid.now c.args.session c.in_default.ensures.value)

pub invariant_of-self-then-remove_number : goal.invariant_of-self-then-remove_number
invariant_of-self-then-remove_number c =
    let h = c.get_mut.follows.holds c.remove_number.new.numbers in
    renews_index (λ v. v.items) c.args.kid.now c.self.inside.sessions.entries _ None (renews_twice (λ v. v.items) c.args.kid.now c.self.inside.sessions.entries _ _ (Some c.remove_number.new.numbers) None (h.3 (search rules)).0 c.swap_remove.ensures.updates.0) tt c.self.invariant

pub invariant_of-self-else-remove_number : goal.invariant_of-self-else-remove_number
invariant_of-self-else-remove_number c =
    let h = c.get_mut.follows.holds c.remove_number.new.numbers in
    let held = some_held (λ v. v.items) c.self.inside.sessions.entries c.args.kid.now c.in-Some.numbers.now c.in-Some.ensures.value c.self.invariant in
    renews_index (λ v. v.items) c.args.kid.now c.self.inside.sessions.entries _ (Some c.remove_number.new.numbers) (h.3 (search rules)).0 (search rules, rw c.remove_number.ensures.items (without_ascending c.args.session c.in-Some.numbers.now.items held.1)) c.self.invariant

pub returns-then-remove_number : goal.returns-then-remove_number
returns-then-remove_number c =
    let h = c.get_mut.follows.holds c.remove_number.new.numbers in
    let none : without_number c.args.session c.in-Some.numbers.now.items ≡ [] = search rules in
    let gone = set_gone (λ v. v.items) c.args.kid.now c.self.inside.sessions.entries _ c.in-Some.numbers.now (without_number c.args.session) c.in-Some.ensures.value (renews_twice (λ v. v.items) c.args.kid.now c.self.inside.sessions.entries _ c.swap_remove.new.self.entries (Some c.remove_number.new.numbers) None (h.3 (search rules)).0 c.swap_remove.ensures.updates.0) none in
    elim c.match-swap_remove.branch [ in-Some-1 w ↦ rw (w.self-is, ← c.self.view_is) gone | in-None-1 w ↦ rw (w.self-is, ← c.self.view_is) gone ]

pub returns-else-remove_number : goal.returns-else-remove_number
returns-else-remove_number c =
    let h = c.get_mut.follows.holds c.remove_number.new.numbers in
    rw (← c.self.view_is) (set_some (λ v. v.items) c.args.kid.now c.self.inside.sessions.entries _ c.in-Some.numbers.now c.remove_number.new.numbers (without_number c.args.session) c.in-Some.ensures.value (h.3 (search rules)).0 c.remove_number.ensures.items)
