use Rattle.std.proofs.Common.{refl}
use Rattle.aes128.proofs.WordLaws.{row_byte_xor}
use Rattle.aes128.proofs.inverse_rounds.inv_last_column.Goals as goal

pub returns-clause-row_0 : goal.returns-clause-row_0
returns-clause-row_0 c = rw (row_byte_xor c.word.result c.args.k 0, c.word.ensures.row_0, c.inv_sub_byte.ensures, c.byte.ensures) refl

pub returns-clause-row_1 : goal.returns-clause-row_1
returns-clause-row_1 c = rw (row_byte_xor c.word.result c.args.k 1, c.word.ensures.row_1, c.inv_sub_byte-2.ensures, c.byte-2.ensures) refl

pub returns-clause-row_2 : goal.returns-clause-row_2
returns-clause-row_2 c = rw (row_byte_xor c.word.result c.args.k 2, c.word.ensures.row_2, c.inv_sub_byte-3.ensures, c.byte-3.ensures) refl

pub returns-clause-row_3 : goal.returns-clause-row_3
returns-clause-row_3 c = rw (row_byte_xor c.word.result c.args.k 3, c.word.ensures.row_3, c.inv_sub_byte-4.ensures, c.byte-4.ensures) refl
