use Rattle.aes128.specs.Cipher.{add_round_key}
use Rattle.aes128.specs.Words.{state_of_words}
use Rattle.aes128.proofs.WordLaws.{row_byte_xor}
use Rattle.aes128.proofs.words.add_round_key.Goals as goal

pub returns : goal.returns
unfolding state_of_words add_round_key
returns c = simp row_byte_xor
