use Rattle.std.proofs.Common.{◌≡◌, ◌≤◌, ◌+◌, ◌∙◌, ap, true, false, length, get_or, rules, arith, Some, ℕ}
use Rattle.std.specs.Str.{bytes_eq}
use Rattle.std.proofs.lemmas.List.{take_all}
use Rattle.key_sessions.specs.SessionOf.{session_of}
use Rattle.key_sessions.specs.Machine.{SessionState}
use Rattle.key_sessions.proofs.SessionLists.{find_some, find_none, unlabelled_more}
use Rattle.key_sessions.proofs.session.find_label.Goals as goal

pub returns-then-eq : goal.returns-then-eq
returns-then-eq c =
    let is : bytes_eq c.index-sessions-i.result.label c.args.label.now ≡ true = search rules in
    let z : 1 + c.loop-i.i ≡ c.loop-i.i + 1 = omega arith in
    (c.loop-i-test.true, λ d. find_some 1 c.args.sessions.now c.args.label.now c.loop-i.i c.index-sessions-i.result d c.loop-i-test.true c.loop-i.invariant (rw (← c.index-sessions-i.is) is) ∙ ap (λ k. let p : ℕ × SessionState = (k, session_of (get_or c.args.sessions.now c.loop-i.i d)) in Some p) z)

pub loop-i-preserved : goal.loop-i-preserved
loop-i-preserved c =
    let is : bytes_eq c.index-sessions-i.result.label c.args.label.now ≡ false = search rules in
    unlabelled_more c.args.sessions.now c.args.label.now c.loop-i.i c.index-sessions-i.result c.loop-i-test.true c.loop-i.invariant (rw (← c.index-sessions-i.is) is)

pub returns : goal.returns
returns c =
    let end : length c.args.sessions.now ≤ c.loop-i.i = c.loop-i-test.false in
    find_none 1 c.args.sessions.now c.args.label.now (rw take_all at c.loop-i.invariant)
