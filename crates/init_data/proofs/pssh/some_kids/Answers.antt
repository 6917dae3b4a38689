use Rattle.std.proofs.Common.{inr}
use Rattle.iso_boxes.specs.Reading.{some_bytes}
use Rattle.iso_boxes.proofs.Repeating.{one_more, broken_off, finished}
use Rattle.init_data.specs.declared.fault.InitFault.TheVariants.{Invalid}
use Rattle.init_data.proofs.PsshLemmas.{some_bytes-ok, some_bytes-err}
use Rattle.init_data.proofs.pssh.some_kids.Goals as goal

pub returns-in_default-clause-value : goal.returns-in_default-clause-value
returns-in_default-clause-value c =
    inr (broken_off (some_bytes Invalid 16) c.loop.kids c.args.count c.loop.counter c.loop.rest.now Invalid _ c.loop-test.true (some_bytes-err 16 c.loop.rest.now c.in_default.ensures) c.loop.invariant)

pub loop-preserved : goal.loop-preserved
loop-preserved c =
    rw (c.in_ok-push.ensures.ok, c.in_ok-kid.ensures)
    (one_more (some_bytes Invalid 16) c.loop.kids c.args.count c.loop.counter c.loop.rest.now c.in-Some.read.0 c.in-Some.read.1.now _ c.loop-test.true
    (some_bytes-ok 16 c.loop.rest.now c.in-Some.read.0 c.in-Some.read.1.now c.in-Some.ensures) c.loop.invariant)

pub returns-clause-value : goal.returns-clause-value
returns-clause-value c = finished (some_bytes Invalid 16) c.loop.kids c.args.count c.loop.counter c.loop.rest.now _ c.loop-test.false c.loop.invariant
