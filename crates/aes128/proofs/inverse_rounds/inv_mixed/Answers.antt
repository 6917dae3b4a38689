use Rattle.std.proofs.Common.{arith}
use Rattle.aes128.specs.Sbox.{inv_sub_byte}
use Rattle.aes128.proofs.Steps.{inv_sub_byte-lt}
use Rattle.aes128.proofs.WordLaws.{inverse_row_0, inverse_row_8, inverse_row_16, inverse_row_24, summed_0, summed_1, summed_2, summed_3}
use Rattle.aes128.proofs.inverse_rounds.inv_mixed.Goals as goal

pub returns-clause-row_0 : goal.returns-clause-row_0
returns-clause-row_0 c =
    rw (c.row.ensures, c.row-2.ensures, c.row-3.ensures, c.row-4.ensures, inverse_row_0 c.args.a (omega arith), inverse_row_8 c.args.b (omega arith), inverse_row_16 c.args.c (omega arith), inverse_row_24 c.args.d (omega arith))
    (summed_0 14 11 13 9 (inv_sub_byte c.args.a) (inv_sub_byte c.args.b) (inv_sub_byte c.args.c) (inv_sub_byte c.args.d)
    (inv_sub_byte-lt c.args.a (omega arith)) (inv_sub_byte-lt c.args.b (omega arith)) (inv_sub_byte-lt c.args.c (omega arith)) (inv_sub_byte-lt c.args.d (omega arith)))

pub returns-clause-row_1 : goal.returns-clause-row_1
returns-clause-row_1 c =
    rw (c.row.ensures, c.row-2.ensures, c.row-3.ensures, c.row-4.ensures, inverse_row_0 c.args.a (omega arith), inverse_row_8 c.args.b (omega arith), inverse_row_16 c.args.c (omega arith), inverse_row_24 c.args.d (omega arith))
    (summed_1 14 11 13 9 (inv_sub_byte c.args.a) (inv_sub_byte c.args.b) (inv_sub_byte c.args.c) (inv_sub_byte c.args.d)
    (inv_sub_byte-lt c.args.a (omega arith)) (inv_sub_byte-lt c.args.b (omega arith)) (inv_sub_byte-lt c.args.c (omega arith)) (inv_sub_byte-lt c.args.d (omega arith)))

pub returns-clause-row_2 : goal.returns-clause-row_2
returns-clause-row_2 c =
    rw (c.row.ensures, c.row-2.ensures, c.row-3.ensures, c.row-4.ensures, inverse_row_0 c.args.a (omega arith), inverse_row_8 c.args.b (omega arith), inverse_row_16 c.args.c (omega arith), inverse_row_24 c.args.d (omega arith))
    (summed_2 14 11 13 9 (inv_sub_byte c.args.a) (inv_sub_byte c.args.b) (inv_sub_byte c.args.c) (inv_sub_byte c.args.d)
    (inv_sub_byte-lt c.args.a (omega arith)) (inv_sub_byte-lt c.args.b (omega arith)) (inv_sub_byte-lt c.args.c (omega arith)) (inv_sub_byte-lt c.args.d (omega arith)))

pub returns-clause-row_3 : goal.returns-clause-row_3
returns-clause-row_3 c =
    rw (c.row.ensures, c.row-2.ensures, c.row-3.ensures, c.row-4.ensures, inverse_row_0 c.args.a (omega arith), inverse_row_8 c.args.b (omega arith), inverse_row_16 c.args.c (omega arith), inverse_row_24 c.args.d (omega arith))
    (summed_3 14 11 13 9 (inv_sub_byte c.args.a) (inv_sub_byte c.args.b) (inv_sub_byte c.args.c) (inv_sub_byte c.args.d)
    (inv_sub_byte-lt c.args.a (omega arith)) (inv_sub_byte-lt c.args.b (omega arith)) (inv_sub_byte-lt c.args.c (omega arith)) (inv_sub_byte-lt c.args.d (omega arith)))
