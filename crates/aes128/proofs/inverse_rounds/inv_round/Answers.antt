use Rattle.std.proofs.Common.{ap, sym, ◌∙◌, List, ℕ}
use Rattle.aes128.specs.Cipher.{add_round_key}
use Rattle.aes128.specs.InverseCipher.{inv_sub_bytes, inv_shift_rows, inv_mix_columns}
use Rattle.aes128.specs.Words.{state_of_words}
use Rattle.aes128.proofs.Steps.{inv_subbed_bytes, inv_shifted_bytes}
use Rattle.aes128.proofs.WordLaws.{words_bytes}
use Rattle.aes128.proofs.Equivalent.{inv_mixed_sum}
use Rattle.aes128.proofs.inverse_rounds.inv_round.Goals as goal

pub returns : goal.returns
unfolding state_of_words inv_sub_bytes inv_shift_rows inv_mix_columns add_round_key
returns c = λ key fits mixed.
    let inner = inv_sub_bytes (inv_shift_rows (state_of_words c.args.s)) in
    rw (
      c.inv_mixed_column.ensures.row_0,
      c.inv_mixed_column.ensures.row_1,
      c.inv_mixed_column.ensures.row_2,
      c.inv_mixed_column.ensures.row_3,
      c.inv_mixed_column-2.ensures.row_0,
      c.inv_mixed_column-2.ensures.row_1,
      c.inv_mixed_column-2.ensures.row_2,
      c.inv_mixed_column-2.ensures.row_3,
      c.inv_mixed_column-3.ensures.row_0,
      c.inv_mixed_column-3.ensures.row_1,
      c.inv_mixed_column-3.ensures.row_2,
      c.inv_mixed_column-3.ensures.row_3,
      c.inv_mixed_column-4.ensures.row_0,
      c.inv_mixed_column-4.ensures.row_1,
      c.inv_mixed_column-4.ensures.row_2,
      c.inv_mixed_column-4.ensures.row_3,
    )
    (ap (λ (k : List ℕ). add_round_key (inv_mix_columns inner) k) mixed
    ∙ sym (inv_mixed_sum inner key (inv_subbed_bytes _ (inv_shifted_bytes _ (words_bytes c.args.s))) fits))
