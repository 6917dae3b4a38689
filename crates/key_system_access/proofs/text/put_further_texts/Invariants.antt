use Rattle.std.proofs.Common.{◌≡◌, ◌++◌, take}
use Rattle.std.specs.List.{flat_map}
use Rattle.key_system_access.specs.ConfigText.{text_json, further}
use Rattle.key_system_access.proofs.text.put_further_texts.Given as goal

abbrev pub invariant-loop-text : goal.invariant-loop-text
invariant-loop-text l = l.out ≡ l.initial.out ++ flat_map (further text_json) (take l.text-index l.texts)
