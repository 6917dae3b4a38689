use Rattle.aes128.specs.Sbox.{sub_byte}
use Rattle.aes128.proofs.Steps.{sub_byte-lt}
use Rattle.aes128.proofs.WordLaws.{table_row_0, table_row_8, table_row_16, table_row_24, summed_0, summed_1, summed_2, summed_3}
use Rattle.aes128.proofs.rounds.mixed.Goals as goal

pub returns-clause-row_0 : goal.returns-clause-row_0
returns-clause-row_0 c =
    rw (c.row.ensures, c.row-2.ensures, c.row-3.ensures, c.row-4.ensures, table_row_0 c.args.a, table_row_8 c.args.b, table_row_16 c.args.c, table_row_24 c.args.d)
    (summed_0 2 3 1 1 (sub_byte c.args.a) (sub_byte c.args.b) (sub_byte c.args.c) (sub_byte c.args.d) (sub_byte-lt c.args.a) (sub_byte-lt c.args.b) (sub_byte-lt c.args.c) (sub_byte-lt c.args.d))

pub returns-clause-row_1 : goal.returns-clause-row_1
returns-clause-row_1 c =
    rw (c.row.ensures, c.row-2.ensures, c.row-3.ensures, c.row-4.ensures, table_row_0 c.args.a, table_row_8 c.args.b, table_row_16 c.args.c, table_row_24 c.args.d)
    (summed_1 2 3 1 1 (sub_byte c.args.a) (sub_byte c.args.b) (sub_byte c.args.c) (sub_byte c.args.d) (sub_byte-lt c.args.a) (sub_byte-lt c.args.b) (sub_byte-lt c.args.c) (sub_byte-lt c.args.d))

pub returns-clause-row_2 : goal.returns-clause-row_2
returns-clause-row_2 c =
    rw (c.row.ensures, c.row-2.ensures, c.row-3.ensures, c.row-4.ensures, table_row_0 c.args.a, table_row_8 c.args.b, table_row_16 c.args.c, table_row_24 c.args.d)
    (summed_2 2 3 1 1 (sub_byte c.args.a) (sub_byte c.args.b) (sub_byte c.args.c) (sub_byte c.args.d) (sub_byte-lt c.args.a) (sub_byte-lt c.args.b) (sub_byte-lt c.args.c) (sub_byte-lt c.args.d))

pub returns-clause-row_3 : goal.returns-clause-row_3
returns-clause-row_3 c =
    rw (c.row.ensures, c.row-2.ensures, c.row-3.ensures, c.row-4.ensures, table_row_0 c.args.a, table_row_8 c.args.b, table_row_16 c.args.c, table_row_24 c.args.d)
    (summed_3 2 3 1 1 (sub_byte c.args.a) (sub_byte c.args.b) (sub_byte c.args.c) (sub_byte c.args.d) (sub_byte-lt c.args.a) (sub_byte-lt c.args.b) (sub_byte-lt c.args.c) (sub_byte-lt c.args.d))
