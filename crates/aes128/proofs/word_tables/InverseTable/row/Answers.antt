use Rattle.std.proofs.Common.{ℕ, ap, ◌∙◌, arith}
use Rattle.std.specs.Int.{w32, rotate_right}
use Rattle.aes128.specs.Words.{inverse_table_word}
use Rattle.aes128.proofs.WordLaws.{inverse_unturned}
use Rattle.aes128.proofs.word_tables.InverseTable.row.Goals as goal

pub returns-in_default : goal.returns-in_default
unfolding inverse_table_word
returns-in_default g c =
    c.rotate_right.ensures ∙ ap (λ (n : ℕ). rotate_right w32 n g.row.ROT) (c.inverse_row_0-in_default.ensures ∙ inverse_unturned c.args.x (omega arith))
