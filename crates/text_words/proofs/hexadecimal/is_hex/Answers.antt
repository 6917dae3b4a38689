use Rattle.std.proofs.Common.{◌≡◌, ◌%◌, length, sym, ◌∙◌, arith}
use Rattle.text_words.proofs.HexLemmas.{odd_word, even_word}
use Rattle.text_words.proofs.hexadecimal.is_hex.Goals as goal

pub returns-then-word-ne0 : goal.returns-then-word-ne0
returns-then-word-ne0 c =
    let odd : length c.args.word.now % 2 ≡ 1 = omega (arith, c.if-word-ne0.true) in
    sym (odd_word c.args.word.now odd)

pub returns : goal.returns
returns c =
    let even : length c.args.word.now % 2 ≡ 0 = omega (arith, c.if-word-ne0.false) in
    c.are_hex_digits.ensures ∙ sym (even_word c.args.word.now even)
