use Rattle.std.proofs.Common.{◌≡◌}
use Rattle.std.proofs.lemmas.List.Elements.{All-push}
use Rattle.std.proofs.lemmas.Result.{err_from_is_err_and}
use Rattle.std.specs.Str.{IsUtf8}
use Rattle.serde_json.specs.View.{view}
use Rattle.eme_types.proofs.ReadEach.{next_read, refused_read, all_read}
use Rattle.key_system_access.specs.declared.configs.ConfigFault.TheVariants.{OutOfMemory}
use Rattle.key_system_access.specs.Configs.{text_of}
use Rattle.key_system_access.proofs.configs.texts_in.Goals as goal

pub returns-in_err-text-clause-value : goal.returns-in_err-text-clause-value
returns-in_err-text-clause-value c =
    let p = err_from_is_err_and c.from_residual-in_err-text.result c.from_residual-in_err-text.ensures.1 in
    let l = c.loop-value in
    rw (p.1, p.2) (refused_read text_of view (λ e. e ≡ OutOfMemory) c.args.values.now l.value-index c.value-item.result l.texts _ _ c.loop-value-test.true c.value-item.is c.in_err-text.ensures.value l.invariant.read)

pub loop-value-preserved : goal.loop-value-preserved
loop-value-preserved c =
    let l = c.loop-value in
    record {
      read = rw c.in_ok-push.ensures.ok (next_read text_of view c.args.values.now l.value-index c.value-item.result l.texts _ _ c.loop-value-test.true c.value-item.is c.in_ok-text.ensures.value l.invariant.read);
      utf8 = rw c.in_ok-push.ensures.ok (All-push IsUtf8 l.texts _ l.invariant.utf8 c.in_ok-text.ensures.utf8);
    }

pub returns-clause-value : goal.returns-clause-value
returns-clause-value c = all_read text_of view c.args.values.now c.loop-value.value-index _ _ c.loop-value-test.false c.loop-value.invariant.read
