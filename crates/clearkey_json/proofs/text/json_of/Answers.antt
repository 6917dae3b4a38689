use Rattle.std.proofs.Common.{rules, refl}
use Rattle.std.proofs.lemmas.Str.{is_utf8-from_IsUtf8}
use Rattle.clearkey_json.specs.Json.{json_of}
use Rattle.clearkey_json.proofs.JsonLemmas.{json_of-none}
use Rattle.clearkey_json.proofs.text.json_of.Goals as goal

pub returns-in-Ok : goal.returns-in-Ok
unfolding json_of
returns-in-Ok c = rw (is_utf8-from_IsUtf8 c.args.bytes.now c.in-Ok.ensures.ok.0, c.in-Ok.ensures.ok.1) refl

pub returns-else-is_memory : goal.returns-else-is_memory
returns-else-is_memory c = json_of-none c.args.bytes.now (λ utf8. c.in-Err.ensures.err (search rules) utf8)
