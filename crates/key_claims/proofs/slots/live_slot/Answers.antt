use Rattle.std.proofs.Common.{◌≡◌, ◌≤◌, true, false, length, rules}
use Rattle.std.proofs.lemmas.List.{take_all}
use Rattle.key_claims.specs.Slots.{is_at}
use Rattle.key_claims.proofs.Deliveries.{placed, none_placed, none_at_more}
use Rattle.key_claims.proofs.slots.live_slot.Goals as goal

pub returns-then-is_given : goal.returns-then-is_given
returns-then-is_given c =
    let is : is_at c.args.generations.now c.args.place c.index-slots-i.result ≡ true = search rules in
    placed c.args.generations.now c.args.slots.now c.args.place c.loop-i.i c.index-slots-i.result c.loop-i-test.true c.loop-i.invariant (rw (← c.index-slots-i.is) is)

pub loop-i-preserved : goal.loop-i-preserved
loop-i-preserved c =
    let is : is_at c.args.generations.now c.args.place c.index-slots-i.result ≡ false = search rules in
    none_at_more c.args.generations.now c.args.slots.now c.args.place c.loop-i.i c.index-slots-i.result c.loop-i-test.true c.loop-i.invariant (rw (← c.index-slots-i.is) is)

pub returns : goal.returns
returns c =
    let end : length c.args.slots.now ≤ c.loop-i.i = c.loop-i-test.false in
    none_placed c.args.generations.now c.args.slots.now c.args.place (rw take_all at c.loop-i.invariant)
