use Rattle.std.proofs.Common.{◌≡◌, ◌+◌, ◌-◌, ◌*◌, take, get_or, arith}
use Rattle.std.specs.Str.Parse.{digits_value}
use Rattle.text_words.proofs.NumberLemmas.{value_more, too_large}
use Rattle.text_words.proofs.numbers.value_up_to.Goals as goal

pub loop-digit-preserved : goal.loop-digit-preserved
loop-digit-preserved c =
    let more = value_more c.args.digits.now c.loop-digit.digit-index c.requires c.loop-digit-test.true in
    (omega (arith, more, c.with_digit-next.ensures, c.loop-digit.invariant.0), omega arith)

pub returns-then-next-from-clause-value : goal.returns-then-next-from-clause-value
returns-then-next-from-clause-value c =
    let ds = c.args.digits.now in
    let i = c.loop-digit.digit-index in
    let is : c.with_digit-next.result ≡ digits_value 10 (take i ds) * 10 + (get_or ds i 0 - 48) = omega (arith, c.with_digit-next.ensures, c.loop-digit.invariant.0) in
    too_large ds i c.args.most c.with_digit-next.result c.requires c.loop-digit-test.true is (omega arith)
