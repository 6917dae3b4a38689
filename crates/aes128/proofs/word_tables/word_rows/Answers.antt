use Rattle.aes128.proofs.Tables.{table_0, table_8, table_16, table_24, inverse_table_0, inverse_table_8, inverse_table_16, inverse_table_24}
use Rattle.aes128.proofs.word_tables.word_rows.Goals as goal

pub returns-clause-table_0 : goal.returns-clause-table_0
returns-clause-table_0 c = table_0

pub returns-clause-table_8 : goal.returns-clause-table_8
returns-clause-table_8 c = table_8

pub returns-clause-table_16 : goal.returns-clause-table_16
returns-clause-table_16 c = table_16

pub returns-clause-table_24 : goal.returns-clause-table_24
returns-clause-table_24 c = table_24

pub returns-clause-inverse_0 : goal.returns-clause-inverse_0
returns-clause-inverse_0 c = inverse_table_0

pub returns-clause-inverse_8 : goal.returns-clause-inverse_8
returns-clause-inverse_8 c = inverse_table_8

pub returns-clause-inverse_16 : goal.returns-clause-inverse_16
returns-clause-inverse_16 c = inverse_table_16

pub returns-clause-inverse_24 : goal.returns-clause-inverse_24
returns-clause-inverse_24 c = inverse_table_24
