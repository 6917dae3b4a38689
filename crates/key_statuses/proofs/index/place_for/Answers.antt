use Rattle.std.proofs.Common.{◌≡◌, ◌<◌, ◌≤◌, get_or, length, rules, arith}
use Rattle.std.proofs.lemmas.List.{take_all}
use Rattle.key_statuses.proofs.Numbers.{place_at, place_taken, place_last, less_more}
use Rattle.key_statuses.proofs.index.place_for.Goals as goal

pub returns-then-other-number : goal.returns-then-other-number
returns-then-other-number c =
    let is : get_or c.args.numbers.now c.loop-i.i 0 ≡ c.args.number = search rules in
    place_taken c.args.numbers.now c.args.number c.loop-i.i 0 c.loop-i-test.true c.loop-i.invariant is

pub returns-then-other-number-2 : goal.returns-then-other-number-2
returns-then-other-number-2 c =
    let is : c.args.number < get_or c.args.numbers.now c.loop-i.i 0 = search rules in
    (omega arith, place_at c.args.numbers.now c.args.number c.loop-i.i 0 c.loop-i-test.true c.loop-i.invariant is)

pub loop-i-preserved : goal.loop-i-preserved
loop-i-preserved c =
    let is : get_or c.args.numbers.now c.loop-i.i 0 < c.args.number = omega (arith, c.if-other-number.false, c.if-other-number-2.false) in
    less_more c.args.numbers.now c.args.number c.loop-i.i 0 c.loop-i-test.true c.loop-i.invariant is

pub returns : goal.returns
returns c =
    let end : length c.args.numbers.now ≤ c.loop-i.i = c.loop-i-test.false in
    (omega arith, place_last c.args.numbers.now c.args.number (rw take_all at c.loop-i.invariant))
