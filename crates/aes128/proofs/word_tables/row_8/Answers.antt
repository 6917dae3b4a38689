use Rattle.std.proofs.Common.{arith}
use Rattle.aes128.specs.declared.word_tables.TheConstants.{TABLE_8}
use Rattle.aes128.specs.Words.{table_word}
use Rattle.aes128.proofs.Below.{row_of}
use Rattle.aes128.proofs.Tables.{table_8}
use Rattle.aes128.proofs.word_tables.row_8.Goals as goal

pub returns : goal.returns
returns c = row_of TABLE_8 (table_word 8) 256 c.args.x table_8 (omega arith)
