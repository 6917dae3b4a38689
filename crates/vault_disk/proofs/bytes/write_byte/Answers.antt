use Rattle.std.proofs.Common.{sym, ◌∙◌, arith}
use Rattle.vault_disk.proofs.Puts.{put_at-inside, put_at-end}
use Rattle.vault_disk.proofs.bytes.write_byte.Goals as goal

pub returns-then-place-len-clause-bytes : goal.returns-then-place-len-clause-bytes
returns-then-place-len-clause-bytes c = sym (put_at-inside c.args.content.now.items c.args.place c.args.byte (omega arith))

pub returns-clause-bytes : goal.returns-clause-bytes
returns-clause-bytes c = c.push_reserved.ensures.items ∙ sym (put_at-end c.args.content.now.items c.args.place c.args.byte (omega arith))
