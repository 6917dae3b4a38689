use Rattle.std.proofs.Common.{arith, ap, ◌∙◌}
use Rattle.aes128.specs.Words.{row_byte}
use Rattle.aes128.proofs.WordLaws.{joined_bytes, word_row_0, word_row_1, word_row_2, word_row_3}
use Rattle.aes128.proofs.words.word.Goals as goal

pub returns-clause-row_0 : goal.returns-clause-row_0
returns-clause-row_0 c =
    ap (λ n. row_byte n 0) (c.from_be_bytes.ensures ∙ joined_bytes c.args.a c.args.b c.args.c c.args.d)
    ∙ word_row_0 c.args.a c.args.b c.args.c c.args.d (omega arith) (omega arith) (omega arith) (omega arith)

pub returns-clause-row_1 : goal.returns-clause-row_1
returns-clause-row_1 c =
    ap (λ n. row_byte n 1) (c.from_be_bytes.ensures ∙ joined_bytes c.args.a c.args.b c.args.c c.args.d)
    ∙ word_row_1 c.args.a c.args.b c.args.c c.args.d (omega arith) (omega arith) (omega arith) (omega arith)

pub returns-clause-row_2 : goal.returns-clause-row_2
returns-clause-row_2 c =
    ap (λ n. row_byte n 2) (c.from_be_bytes.ensures ∙ joined_bytes c.args.a c.args.b c.args.c c.args.d)
    ∙ word_row_2 c.args.a c.args.b c.args.c c.args.d (omega arith) (omega arith) (omega arith) (omega arith)

pub returns-clause-row_3 : goal.returns-clause-row_3
returns-clause-row_3 c =
    ap (λ n. row_byte n 3) (c.from_be_bytes.ensures ∙ joined_bytes c.args.a c.args.b c.args.c c.args.d)
    ∙ word_row_3 c.args.a c.args.b c.args.c c.args.d (omega arith) (omega arith) (omega arith) (omega arith)
