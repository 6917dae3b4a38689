use Rattle.std.proofs.Common.{◌∙◌, sym, true, false}
use Rattle.serde_json.specs.View.{view}
use Rattle.clearkey_json.proofs.KeySetLemmas.{web_keys-is}
use Rattle.clearkey_json.proofs.key_set.web_keys.Goals as goal

pub returns-then-are_web_keys : goal.returns-then-are_web_keys
returns-then-are_web_keys c =
    let all = rw c.deref.ensures.value at (sym c.if-are_web_keys.true ∙ c.are_web_keys.ensures) in
    rw c.deref-then-are_web_keys.ensures.value (web_keys-is (view c.args.set.now) _ c.in_ok-objects.objects.now.items true c.in_ok-get.ensures c.in_ok-objects.ensures all)

pub returns-else-are_web_keys : goal.returns-else-are_web_keys
returns-else-are_web_keys c =
    let some = rw c.deref.ensures.value at (sym c.if-are_web_keys.false ∙ c.are_web_keys.ensures) in
    web_keys-is (view c.args.set.now) _ c.in_ok-objects.objects.now.items false c.in_ok-get.ensures c.in_ok-objects.ensures some
