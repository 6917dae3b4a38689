use Rattle.aes128.specs.KeyExpansion.{new_byte, next_key}
use Rattle.aes128.specs.Words.{state_of_words}
use Rattle.aes128.proofs.WordLaws.{row_byte_xor}
use Rattle.aes128.proofs.key_expansion.next_key.Goals as goal

pub returns : goal.returns
unfolding state_of_words new_byte next_key
returns c =
    simp (
      row_byte_xor,
      c.word-turned.ensures.row_0,
      c.word-turned.ensures.row_1,
      c.word-turned.ensures.row_2,
      c.word-turned.ensures.row_3,
      c.word.ensures.row_0,
      c.word.ensures.row_1,
      c.word.ensures.row_2,
      c.word.ensures.row_3,
      c.sub_byte.ensures,
      c.sub_byte-2.ensures,
      c.sub_byte-3.ensures,
      c.sub_byte-4.ensures,
      c.byte.ensures,
      c.byte-2.ensures,
      c.byte-3.ensures,
      c.byte-4.ensures,
    )
