use Rattle.std.proofs.Common.{◌≡◌, [], map, refl}
use Rattle.aes128.specs.KeyExpansion.{round_keys}
use Rattle.aes128.specs.Cipher.{rounds, cipher}
use Rattle.aes128.specs.Words.{state_of_words}
use Rattle.aes128.proofs.WordLaws.{item_state}
use Rattle.aes128.proofs.encrypt_block.Goals as goal

pub returns : goal.returns
unfolding rounds cipher round_keys
returns c =
    let words = c.keys.inside.words in
    let keys : map state_of_words words ≡ round_keys c.args.keys.now = rw c.keys.view_is at c.keys.invariant.0 in
    rw (
      c.block_of.ensures,
      c.last_round.ensures,
      c.round-state-9.ensures,
      c.round-state-8.ensures,
      c.round-state-7.ensures,
      c.round-state-6.ensures,
      c.round-state-5.ensures,
      c.round-state-4.ensures,
      c.round-state-3.ensures,
      c.round-state-2.ensures,
      c.round-state.ensures,
      c.add_round_key-state.ensures,
      c.words_of.ensures,
      item_state words (round_keys c.args.keys.now) 0 [] keys,
      item_state words (round_keys c.args.keys.now) 1 [] keys,
      item_state words (round_keys c.args.keys.now) 2 [] keys,
      item_state words (round_keys c.args.keys.now) 3 [] keys,
      item_state words (round_keys c.args.keys.now) 4 [] keys,
      item_state words (round_keys c.args.keys.now) 5 [] keys,
      item_state words (round_keys c.args.keys.now) 6 [] keys,
      item_state words (round_keys c.args.keys.now) 7 [] keys,
      item_state words (round_keys c.args.keys.now) 8 [] keys,
      item_state words (round_keys c.args.keys.now) 9 [] keys,
      item_state words (round_keys c.args.keys.now) 10 [] keys,
    ) refl
