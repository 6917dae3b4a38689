use Rattle.std.proofs.Common.{arith}
use Rattle.aes128.specs.declared.sbox.TheConstants.{INVERSE_SBOX}
use Rattle.aes128.specs.Sbox.{inv_sub_byte}
use Rattle.aes128.proofs.Below.{row_of}
use Rattle.aes128.proofs.Tables.{inv_sub_table}
use Rattle.aes128.proofs.sbox.inv_sub_byte.Goals as goal

pub returns : goal.returns
returns c = row_of INVERSE_SBOX inv_sub_byte 256 c.args.x inv_sub_table (omega arith)
