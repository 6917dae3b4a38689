use Rattle.std.proofs.Common.{ℕ, ap, ◌∙◌}
use Rattle.std.specs.Int.{w32, rotate_right}
use Rattle.aes128.specs.Words.{table_word}
use Rattle.aes128.proofs.WordLaws.{table_unturned}
use Rattle.aes128.proofs.word_tables.WordTable.row.Goals as goal

pub returns-in_default : goal.returns-in_default
unfolding table_word
returns-in_default g c =
    c.rotate_right.ensures ∙ ap (λ (n : ℕ). rotate_right w32 n g.row.ROT) (c.row_0-in_default.ensures ∙ table_unturned c.args.x)
