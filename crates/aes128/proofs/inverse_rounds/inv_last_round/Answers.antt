use Rattle.std.proofs.Common.{refl}
use Rattle.aes128.specs.Cipher.{add_round_key}
use Rattle.aes128.specs.InverseCipher.{inv_sub_bytes, inv_shift_rows}
use Rattle.aes128.specs.Words.{state_of_words}
use Rattle.aes128.proofs.inverse_rounds.inv_last_round.Goals as goal

pub returns : goal.returns
unfolding state_of_words inv_sub_bytes inv_shift_rows add_round_key
returns c =
    rw (
      c.inv_last_column.ensures.row_0,
      c.inv_last_column.ensures.row_1,
      c.inv_last_column.ensures.row_2,
      c.inv_last_column.ensures.row_3,
      c.inv_last_column-2.ensures.row_0,
      c.inv_last_column-2.ensures.row_1,
      c.inv_last_column-2.ensures.row_2,
      c.inv_last_column-2.ensures.row_3,
      c.inv_last_column-3.ensures.row_0,
      c.inv_last_column-3.ensures.row_1,
      c.inv_last_column-3.ensures.row_2,
      c.inv_last_column-3.ensures.row_3,
      c.inv_last_column-4.ensures.row_0,
      c.inv_last_column-4.ensures.row_1,
      c.inv_last_column-4.ensures.row_2,
      c.inv_last_column-4.ensures.row_3,
    ) refl
