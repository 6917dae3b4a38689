use Rattle.std.proofs.Common.{◌≡◌, ◌∙◌, ap, arith, length-drop}
use Rattle.std.proofs.lemmas.List.{take_all}
use Rattle.clearkey_json.specs.Request.{request_text}
use Rattle.clearkey_json.proofs.RequestLemmas.{request_is}
use Rattle.clearkey_json.proofs.request.request_text.Goals as goal

pub returns : goal.returns
returns c =
    let kids = c.as_slice-kids.result.now in
    let whole : c.from_vec.result ≡ request_text kids =
    request_is kids c.index-kids-0.result _ c.loop-kid.kid-index _ _ _ (rw c.as_slice-kids.ensures c.requires) c.index-kids-0.is
    (take_all _ _ (omega (arith, length-drop 1 kids)))
    c.loop-kid-test.false (rw (c.in_ok-text.ensures.ok, c.bytes.ensures.value) at c.in_ok-encode_string.ensures.ok) c.loop-kid.invariant
    (c.from_vec.ensures ∙ ap (λ v. v.items) c.into_bytes.ensures.value ∙ c.in_ok-push_str-2.ensures.bytes) in
    rw c.as_slice-kids.ensures at whole
