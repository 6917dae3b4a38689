use Rattle.std.proofs.Common.{refl}
use Rattle.aes128.proofs.WordLaws.{row_sub_back}
use Rattle.aes128.proofs.inverse_rounds.mixed_key_column.Goals as goal

pub returns-clause-row_0 : goal.returns-clause-row_0
returns-clause-row_0 c =
    rw (c.inv_mixed.ensures.row_0, c.sub_byte.ensures, c.sub_byte-2.ensures, c.sub_byte-3.ensures, c.sub_byte-4.ensures, c.byte.ensures, c.byte-2.ensures, c.byte-3.ensures, c.byte-4.ensures, row_sub_back c.args.k 0, row_sub_back c.args.k 1, row_sub_back c.args.k 2, row_sub_back c.args.k 3) refl

pub returns-clause-row_1 : goal.returns-clause-row_1
returns-clause-row_1 c =
    rw (c.inv_mixed.ensures.row_1, c.sub_byte.ensures, c.sub_byte-2.ensures, c.sub_byte-3.ensures, c.sub_byte-4.ensures, c.byte.ensures, c.byte-2.ensures, c.byte-3.ensures, c.byte-4.ensures, row_sub_back c.args.k 0, row_sub_back c.args.k 1, row_sub_back c.args.k 2, row_sub_back c.args.k 3) refl

pub returns-clause-row_2 : goal.returns-clause-row_2
returns-clause-row_2 c =
    rw (c.inv_mixed.ensures.row_2, c.sub_byte.ensures, c.sub_byte-2.ensures, c.sub_byte-3.ensures, c.sub_byte-4.ensures, c.byte.ensures, c.byte-2.ensures, c.byte-3.ensures, c.byte-4.ensures, row_sub_back c.args.k 0, row_sub_back c.args.k 1, row_sub_back c.args.k 2, row_sub_back c.args.k 3) refl

pub returns-clause-row_3 : goal.returns-clause-row_3
returns-clause-row_3 c =
    rw (c.inv_mixed.ensures.row_3, c.sub_byte.ensures, c.sub_byte-2.ensures, c.sub_byte-3.ensures, c.sub_byte-4.ensures, c.byte.ensures, c.byte-2.ensures, c.byte-3.ensures, c.byte-4.ensures, row_sub_back c.args.k 0, row_sub_back c.args.k 1, row_sub_back c.args.k 2, row_sub_back c.args.k 3) refl
