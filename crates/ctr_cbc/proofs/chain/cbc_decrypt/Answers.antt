use Rattle.std.proofs.Common.{List, ℕ, ◌≡◌, ◌≤◌, ◌*◌, ◌+◌, ◌-◌, length, take, drop, arith, ap, ◌∙◌, add-one, length-take, length-drop}
use Rattle.ctr_cbc.proofs.ChainLemmas.{next_opened}
use Rattle.ctr_cbc.proofs.chain.cbc_decrypt.Goals as goal

pub loop-r-preserved : goal.loop-r-preserved
loop-r-preserved c =
    let l = c.loop-r in
    let i = l.invariant in
    let at = l.r * 16 in
    let call = c.open_block-ciphertext in
    let w : at + 16 - at ≡ 16 = omega arith in
    let within : at + 16 ≤ length l.bytes = omega arith in
    let len : length call.new.bytes ≡ 16 = omega (arith, call.auto.bytes, length-take (at + 16 - at) (drop at l.bytes), length-drop at l.bytes) in
    let turn = next_opened c.args.keys.now c.args.iv l.bytes c.args.bytes.now call.new.bytes l.before l.r (at + 16 - at) within w i.before i.opened i.rest call.ensures.opened len in
    record {
      before = rw add-one (rw w at call.ensures.was ∙ ap (λ (zs : List ℕ). take 16 zs) i.rest);
      opened = turn.0;
      rest = turn.1;
    }
