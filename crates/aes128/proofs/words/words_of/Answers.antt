use Rattle.std.proofs.Common.{◌≡◌, length, rules}
use Rattle.aes128.specs.Words.{state_of_words}
use Rattle.aes128.proofs.States.{whole_state}
use Rattle.aes128.proofs.words.words_of.Goals as goal

pub returns : goal.returns
unfolding state_of_words
returns c =
    let len : length c.args.block ≡ 16 = search rules in
    rw (
      c.word.ensures.row_0,
      c.word.ensures.row_1,
      c.word.ensures.row_2,
      c.word.ensures.row_3,
      c.word-2.ensures.row_0,
      c.word-2.ensures.row_1,
      c.word-2.ensures.row_2,
      c.word-2.ensures.row_3,
      c.word-3.ensures.row_0,
      c.word-3.ensures.row_1,
      c.word-3.ensures.row_2,
      c.word-3.ensures.row_3,
      c.word-4.ensures.row_0,
      c.word-4.ensures.row_1,
      c.word-4.ensures.row_2,
      c.word-4.ensures.row_3,
    ) (whole_state c.args.block len)
