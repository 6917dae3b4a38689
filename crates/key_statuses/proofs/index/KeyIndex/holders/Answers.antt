use Rattle.std.proofs.Common.{◌≡◌, ◌∙◌, sym}
use Rattle.key_statuses.proofs.Holders.{reads_none, reads_some, some_held}
use Rattle.key_statuses.proofs.index.KeyIndex.holders.Goals as goal

pub returns-in-None-clause-value : goal.returns-in-None-clause-value
returns-in-None-clause-value c = rw (← c.self.view_is) (sym (reads_none (λ v. v.items) c.self.inside.sessions.entries c.args.kid.now c.in-None.ensures.value))

pub returns-in-Some-clause-value : goal.returns-in-Some-clause-value
returns-in-Some-clause-value c = rw (← c.self.view_is) (c.as_slice.ensures.value ∙ sym (reads_some (λ v. v.items) c.self.inside.sessions.entries c.args.kid.now c.in-Some.numbers.now c.in-Some.ensures.value))

pub returns-in-Some-clause-ascending : goal.returns-in-Some-clause-ascending
returns-in-Some-clause-ascending c = rw c.as_slice.ensures.value (some_held (λ v. v.items) c.self.inside.sessions.entries c.args.kid.now c.in-Some.numbers.now c.in-Some.ensures.value c.self.invariant).1
