use Rattle.std.proofs.Common.{string_bytes}
use Rattle.key_vault.proofs.Listed.{listed_more}
use Rattle.key_vault.proofs.kids.release_text.Goals as goal

pub loop-i-preserved : goal.loop-i-preserved
loop-i-preserved c =
    listed_more c.args.kids.now c.loop-i.i c.index-kids-i.result (string_bytes c.in_ok-text.text) (string_bytes c.loop-i.text) (string_bytes c.push_comma.new.text) (string_bytes c.push_quoted.new.text)
    c.loop-i-test.true c.index-kids-i.is c.loop-i.invariant c.in_ok-push_comma.ensures c.in_ok-push_quoted.ensures
