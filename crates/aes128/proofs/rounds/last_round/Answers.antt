use Rattle.std.proofs.Common.{refl}
use Rattle.aes128.specs.Cipher.{sub_bytes, shift_rows, add_round_key}
use Rattle.aes128.specs.Words.{state_of_words}
use Rattle.aes128.proofs.rounds.last_round.Goals as goal

pub returns : goal.returns
unfolding state_of_words sub_bytes shift_rows add_round_key
returns c =
    rw (
      c.last_column.ensures.row_0,
      c.last_column.ensures.row_1,
      c.last_column.ensures.row_2,
      c.last_column.ensures.row_3,
      c.last_column-2.ensures.row_0,
      c.last_column-2.ensures.row_1,
      c.last_column-2.ensures.row_2,
      c.last_column-2.ensures.row_3,
      c.last_column-3.ensures.row_0,
      c.last_column-3.ensures.row_1,
      c.last_column-3.ensures.row_2,
      c.last_column-3.ensures.row_3,
      c.last_column-4.ensures.row_0,
      c.last_column-4.ensures.row_1,
      c.last_column-4.ensures.row_2,
      c.last_column-4.ensures.row_3,
    ) refl
