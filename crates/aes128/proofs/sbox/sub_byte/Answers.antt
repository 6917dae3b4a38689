use Rattle.std.proofs.Common.{arith}
use Rattle.aes128.specs.declared.sbox.TheConstants.{SBOX}
use Rattle.aes128.specs.Sbox.{sub_byte}
use Rattle.aes128.proofs.Below.{row_of}
use Rattle.aes128.proofs.Tables.{sub_table}
use Rattle.aes128.proofs.sbox.sub_byte.Goals as goal

pub returns : goal.returns
returns c = row_of SBOX sub_byte 256 c.args.x sub_table (omega arith)
