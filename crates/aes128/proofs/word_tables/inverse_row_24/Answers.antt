use Rattle.std.proofs.Common.{arith}
use Rattle.aes128.specs.declared.word_tables.TheConstants.{INVERSE_TABLE_24}
use Rattle.aes128.specs.Words.{inverse_table_word}
use Rattle.aes128.proofs.Below.{row_of}
use Rattle.aes128.proofs.Tables.{inverse_table_24}
use Rattle.aes128.proofs.word_tables.inverse_row_24.Goals as goal

pub returns : goal.returns
returns c = row_of INVERSE_TABLE_24 (inverse_table_word 24) 256 c.args.x inverse_table_24 (omega arith)
