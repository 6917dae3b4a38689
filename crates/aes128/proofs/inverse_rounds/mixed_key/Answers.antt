use Rattle.std.proofs.Common.{refl}
use Rattle.aes128.specs.InverseCipher.{inv_mix_columns}
use Rattle.aes128.specs.Words.{state_of_words}
use Rattle.aes128.proofs.inverse_rounds.mixed_key.Goals as goal

pub returns : goal.returns
unfolding state_of_words inv_mix_columns
returns c =
    rw (
      c.mixed_key_column.ensures.row_0,
      c.mixed_key_column.ensures.row_1,
      c.mixed_key_column.ensures.row_2,
      c.mixed_key_column.ensures.row_3,
      c.mixed_key_column-2.ensures.row_0,
      c.mixed_key_column-2.ensures.row_1,
      c.mixed_key_column-2.ensures.row_2,
      c.mixed_key_column-2.ensures.row_3,
      c.mixed_key_column-3.ensures.row_0,
      c.mixed_key_column-3.ensures.row_1,
      c.mixed_key_column-3.ensures.row_2,
      c.mixed_key_column-3.ensures.row_3,
      c.mixed_key_column-4.ensures.row_0,
      c.mixed_key_column-4.ensures.row_1,
      c.mixed_key_column-4.ensures.row_2,
      c.mixed_key_column-4.ensures.row_3,
    ) refl
