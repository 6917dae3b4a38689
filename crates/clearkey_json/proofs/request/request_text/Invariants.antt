use Rattle.std.proofs.Common.{◌≡◌, ◌++◌, take, string_bytes}
use Rattle.std.specs.List.{flat_map}
use Rattle.clearkey_json.specs.Request.{further}
use Rattle.clearkey_json.proofs.request.request_text.Given as goal

abbrev pub invariant-loop-kid : goal.invariant-loop-kid
invariant-loop-kid l = string_bytes l.text ≡ string_bytes l.initial.text ++ flat_map further (take l.kid-index l.kid-items)
