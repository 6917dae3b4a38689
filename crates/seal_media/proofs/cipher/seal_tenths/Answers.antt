use Rattle.std.proofs.Common.{◌≡◌, ◌≤◌, ◌*◌, ◌+◌, ◌-◌, ◌∙◌, length, drop, take, arith, add-one, length-take, length-drop}
use Rattle.seal_media.proofs.TenthLemmas.{next_tenth, one_block, one_last, all_tenths}
use Rattle.seal_media.proofs.cipher.seal_tenths.Goals as goal

pub loop-r-preserved : goal.loop-r-preserved
loop-r-preserved c =
    let l = c.loop-r in
    let i = l.invariant in
    let at = l.r * 160 in
    let call = c.cbc_encrypt-last in
    let w : at + 16 - at ≡ 16 = omega arith in
    let within : at + 16 ≤ length l.bytes = omega (arith, c.loop-r-test.true, l.auto.bytes) in
    let part = take (at + 16 - at) (drop at l.bytes) in
    let part_len : length part ≡ 16 = omega (arith, length-take (at + 16 - at) (drop at l.bytes), length-drop at l.bytes) in
    let len : length call.new.bytes ≡ 16 = omega (arith, call.ensures.len, part_len) in
    let sealed = one_block c.args.keys.now l.before part call.new.bytes part_len len call.ensures.sealed in
    let turn = next_tenth c.args.keys.now c.args.iv l.bytes c.args.bytes.now call.new.bytes l.before l.r (at + 16 - at) within w i.before i.sealed i.rest i.left sealed len in
    record {
      before = rw add-one (one_last l.before part call.new.bytes call.result part_len len call.ensures.last ∙ turn.0);
      sealed = turn.1;
      rest = turn.2;
      left = turn.3;
    }

pub returns : goal.returns
returns c =
    let l = c.loop-r in
    all_tenths c.args.keys.now c.args.iv l.bytes c.args.bytes.now l.r l.auto.bytes c.loop-r-test.false l.auto.r-end l.invariant.sealed l.invariant.left
