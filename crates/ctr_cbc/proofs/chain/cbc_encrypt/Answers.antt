use Rattle.std.proofs.Common.{◌≡◌, ◌≤◌, ◌*◌, ◌+◌, ◌-◌, length, drop, arith, ◌∙◌, add-one, length-take, length-drop}
use Rattle.ctr_cbc.proofs.ChainLemmas.{next_sealed}
use Rattle.ctr_cbc.proofs.chain.cbc_encrypt.Goals as goal

pub loop-r-preserved : goal.loop-r-preserved
loop-r-preserved c =
    let l = c.loop-r in
    let i = l.invariant in
    let at = l.r * 16 in
    let call = c.seal_block-ciphertext in
    let w : at + 16 - at ≡ 16 = omega arith in
    let within : at + 16 ≤ length l.bytes = omega arith in
    let len : length call.new.bytes ≡ 16 = omega (arith, call.auto.bytes, length-take (at + 16 - at) (drop at l.bytes), length-drop at l.bytes) in
    let turn = next_sealed c.args.keys.now c.args.iv l.bytes c.args.bytes.now call.new.bytes l.before l.r (at + 16 - at) within w i.before i.sealed i.rest call.ensures.sealed len in
    record {
      before = rw add-one (call.ensures.is ∙ turn.0);
      sealed = turn.1;
      rest = turn.2;
    }
