use Rattle.std.proofs.Common.{sym, ◌∙◌, arith}
use Rattle.vault_disk.proofs.Puts.{put_at-inside, put_at-end, put_at-past}
use Rattle.vault_disk.proofs.bytes.put.Goals as goal

pub returns-then-place-len : goal.returns-then-place-len
returns-then-place-len c = sym (put_at-inside c.args.bytes.now.items c.args.place c.args.byte (omega arith))

pub returns-in_ok-push : goal.returns-in_ok-push
returns-in_ok-push c = c.in_ok-push.ensures.items ∙ sym (put_at-end c.args.bytes.now.items c.args.place c.args.byte (omega arith))

pub returns-else-place-len-2 : goal.returns-else-place-len-2
returns-else-place-len-2 c = sym (put_at-past c.args.bytes.now.items c.args.place c.args.byte (omega (arith, c.if-place-len-2.false)))
