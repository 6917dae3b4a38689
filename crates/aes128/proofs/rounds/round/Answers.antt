use Rattle.std.proofs.Common.{refl}
use Rattle.aes128.specs.Cipher.{sub_bytes, shift_rows, mix_columns, add_round_key}
use Rattle.aes128.specs.Words.{state_of_words}
use Rattle.aes128.proofs.rounds.round.Goals as goal

pub returns : goal.returns
unfolding state_of_words sub_bytes shift_rows mix_columns add_round_key
returns c =
    rw (
      c.mixed_column.ensures.row_0,
      c.mixed_column.ensures.row_1,
      c.mixed_column.ensures.row_2,
      c.mixed_column.ensures.row_3,
      c.mixed_column-2.ensures.row_0,
      c.mixed_column-2.ensures.row_1,
      c.mixed_column-2.ensures.row_2,
      c.mixed_column-2.ensures.row_3,
      c.mixed_column-3.ensures.row_0,
      c.mixed_column-3.ensures.row_1,
      c.mixed_column-3.ensures.row_2,
      c.mixed_column-3.ensures.row_3,
      c.mixed_column-4.ensures.row_0,
      c.mixed_column-4.ensures.row_1,
      c.mixed_column-4.ensures.row_2,
      c.mixed_column-4.ensures.row_3,
    ) refl
