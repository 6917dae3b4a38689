use Rattle.std.proofs.Common.{◌≡◌, [], map, slice_index_or, refl}
use Rattle.aes128.specs.Bytes.{AreBytes}
use Rattle.aes128.specs.KeyExpansion.{round_key}
use Rattle.aes128.specs.InverseCipher.{inv_rounds, inv_cipher, inverse_round_keys}
use Rattle.aes128.specs.Words.{state_of_words}
use Rattle.aes128.proofs.Steps.{round_key_bytes}
use Rattle.aes128.proofs.WordLaws.{words_bytes, item_state}
use Rattle.aes128.proofs.decrypt_block.Goals as goal

pub returns : goal.returns
unfolding inv_rounds inv_cipher inverse_round_keys
returns c =
    let key = c.args.keys.now in
    let words = c.keys.inside.inverse in
    let keys : map state_of_words words ≡ inverse_round_keys key = rw c.keys.view_is at c.keys.invariant.1 in
    let fits : AreBytes key = rw c.keys.view_is at (words_bytes (slice_index_or c.keys.inside.words 0 [])) in
    rw (
      c.block_of.ensures,
      c.inv_last_round.ensures,
      c.inv_round-state-9.ensures (round_key key 1) (round_key_bytes key 1 fits) (item_state words (inverse_round_keys key) 1 [] keys),
      c.inv_round-state-8.ensures (round_key key 2) (round_key_bytes key 2 fits) (item_state words (inverse_round_keys key) 2 [] keys),
      c.inv_round-state-7.ensures (round_key key 3) (round_key_bytes key 3 fits) (item_state words (inverse_round_keys key) 3 [] keys),
      c.inv_round-state-6.ensures (round_key key 4) (round_key_bytes key 4 fits) (item_state words (inverse_round_keys key) 4 [] keys),
      c.inv_round-state-5.ensures (round_key key 5) (round_key_bytes key 5 fits) (item_state words (inverse_round_keys key) 5 [] keys),
      c.inv_round-state-4.ensures (round_key key 6) (round_key_bytes key 6 fits) (item_state words (inverse_round_keys key) 6 [] keys),
      c.inv_round-state-3.ensures (round_key key 7) (round_key_bytes key 7 fits) (item_state words (inverse_round_keys key) 7 [] keys),
      c.inv_round-state-2.ensures (round_key key 8) (round_key_bytes key 8 fits) (item_state words (inverse_round_keys key) 8 [] keys),
      c.inv_round-state.ensures (round_key key 9) (round_key_bytes key 9 fits) (item_state words (inverse_round_keys key) 9 [] keys),
      c.add_round_key-state.ensures,
      c.words_of.ensures,
      item_state words (inverse_round_keys key) 0 [] keys,
      item_state words (inverse_round_keys key) 10 [] keys,
    ) refl
