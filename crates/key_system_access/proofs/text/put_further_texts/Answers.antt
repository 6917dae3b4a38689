use Rattle.std.proofs.Common.{subst, sym}
use Rattle.std.specs.Str.{IsUtf8}
use Rattle.key_system_access.proofs.text.put_further_texts.Goals as goal

pub put_text-requires : goal.put_text-requires
put_text-requires c = subst IsUtf8 (sym c.text-item.is) (c.requires c.loop-text.text-index c.text-item.result c.loop-text-test.true)
