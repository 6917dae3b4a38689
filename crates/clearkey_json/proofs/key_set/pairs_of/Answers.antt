use Rattle.std.proofs.Common.{◌≡◌, ◌∙◌, rules}
use Rattle.std.proofs.lemmas.Result.{err_from_is_err_and}
use Rattle.serde_json.specs.View.{view}
use Rattle.clearkey_json.specs.declared.key_set.KeySetFault.TheVariants.{OutOfMemory}
use Rattle.clearkey_json.specs.KeySet.{pair_of}
use Rattle.eme_types.proofs.ReadEach.{next_read, refused_read, all_read}
use Rattle.clearkey_json.proofs.KeySetLemmas.{pairs_of-some}
use Rattle.clearkey_json.proofs.key_set.pairs_of.Goals as goal

pub returns-in_err-pair : goal.returns-in_err-pair
returns-in_err-pair c =
    let p = err_from_is_err_and c.from_residual-in_err-pair.result c.from_residual-in_err-pair.ensures.1 in
    let l = c.loop-object in
    let some = pairs_of-some c.args.objects.now (search rules) in
    rw (p.1, p.2, some) (refused_read pair_of view (λ e. e ≡ OutOfMemory) c.args.objects.now l.object-index c.object-item.result l.pairs _ _ c.loop-object-test.true c.object-item.is c.in_err-pair.ensures l.invariant)

pub loop-object-preserved : goal.loop-object-preserved
loop-object-preserved c =
    let l = c.loop-object in
    rw c.in_ok-push.ensures.ok (next_read pair_of view c.args.objects.now l.object-index c.object-item.result l.pairs _ _ c.loop-object-test.true c.object-item.is c.in_ok-pair.ensures l.invariant)

pub returns : goal.returns
returns c = pairs_of-some c.args.objects.now (search rules) ∙ all_read pair_of view c.args.objects.now c.loop-object.object-index _ _ c.loop-object-test.false c.loop-object.invariant
