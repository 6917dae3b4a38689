use Rattle.std.proofs.Common.{◌≡◌}
use Rattle.std.proofs.lemmas.Result.{err_from_is_err_and}
use Rattle.serde_json.specs.View.{view}
use Rattle.eme_types.proofs.ReadEach.{next_read, refused_read, all_read}
use Rattle.init_data.specs.declared.fault.InitFault.TheVariants.{OutOfMemory}
use Rattle.init_data.specs.InitData.{kid_in}
use Rattle.init_data.proofs.kids.kids_in.Goals as goal

pub returns-in_err-kid : goal.returns-in_err-kid
returns-in_err-kid c =
    let p = err_from_is_err_and c.from_residual-in_err-kid.result c.from_residual-in_err-kid.ensures.1 in
    let l = c.loop-value in
    rw (p.1, p.2) (refused_read kid_in view (λ e. e ≡ OutOfMemory) c.args.values.now l.value-index c.value-item.result l.kids.items _ _ c.loop-value-test.true c.value-item.is c.in_err-kid.ensures l.invariant)

pub loop-value-preserved : goal.loop-value-preserved
loop-value-preserved c =
    let l = c.loop-value in
    rw c.in_ok-push.ensures.items (next_read kid_in view c.args.values.now l.value-index c.value-item.result l.kids.items _ _ c.loop-value-test.true c.value-item.is c.in_ok-kid.ensures l.invariant)

pub returns : goal.returns
returns c = all_read kid_in view c.args.values.now c.loop-value.value-index _ _ c.loop-value-test.false c.loop-value.invariant
