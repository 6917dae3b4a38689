use Rattle.std.proofs.Common.{arith}
use Rattle.aes128.specs.declared.word_tables.TheConstants.{TABLE_0}
use Rattle.aes128.specs.Words.{table_word}
use Rattle.aes128.proofs.Below.{row_of}
use Rattle.aes128.proofs.Tables.{table_0}
use Rattle.aes128.proofs.word_tables.row_0.Goals as goal

pub returns : goal.returns
returns c = row_of TABLE_0 (table_word 0) 256 c.args.x table_0 (omega arith)
