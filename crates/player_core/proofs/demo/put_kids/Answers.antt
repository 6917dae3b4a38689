use Rattle.std.proofs.Common.{◌≡◌, ℕ, List, ◌++◌, ap, ◌∙◌, arith}
use Rattle.player_core.specs.Demo.{joined, kid_text}
use Rattle.player_core.proofs.Demos.{put_none, put_text}
use Rattle.player_core.proofs.demo.put_kids.Goals as goal

pub loop-i-init : goal.loop-i-init
loop-i-init c = put_none c.args.out.now (kid_text c.args.keys.now)

pub loop-i-preserved : goal.loop-i-preserved
loop-i-preserved c =
    put_text c.args.out.now c.loop-i.out c.extend_from_slice.new.self (kid_text c.args.keys.now) c.loop-i.i c.loop-i.invariant
    (c.in_ok-extend_from_slice.ensures.ok ∙ ap (λ (x : List ℕ). c.loop-i.out ++ x) (c.as_bytes.ensures.value ∙ c.in_ok-text.ensures))

pub returns : goal.returns
returns c =
    let same : c.loop-i.i ≡ 4 = omega (arith, c.loop-i-test.false, c.loop-i.auto.i-end) in
    c.loop-i.invariant ∙ ap (λ n. c.args.out.now ++ joined (kid_text c.args.keys.now) n) same
