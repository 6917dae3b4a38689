use Rattle.std.proofs.Common.{◌≡◌, ◌-◌, length, drop, arith, ◌⊎◌, inl, inr, true, false, length-take, length-drop}
use Rattle.pattern_map.specs.Coverage.{CoverSample}
use Rattle.sample_crypt.proofs.Opening.{all_to_come}
use Rattle.sample_crypt.proofs.Chains.{chain_start, chain_bounds, chain_step, chain_end}
use Rattle.sample_crypt.proofs.chain.open_chains.Goals as goal
use Rattle.sample_crypt.proofs.chain.open_chains.Goals.{then-range, else-range}

pub loop-range-init : goal.loop-range-init
loop-range-init c =
    let s = c.args.sample.now in
    let cover : CoverSample c.args.sample.now c.into_iter-range-iterator.result
    = rw c.into_iter-range-iterator.ensures.into_iter_gives c.ranges-range-items.ensures.cover in
    (tt, tt, chain_start _ c.args.protect.now s.bytes _ _ _ c.requires.copy (all_to_come s.protect c.args.protect.now s.bytes _ c.requires.protected cover))

pub loop-range-preserved : goal.loop-range-preserved
loop-range-preserved c =
    let l = c.loop-range in
    let r = c.in-Some.range in
    let p = c.args.protect.now in
    let was = c.args.sample.now.bytes in
    let now = rw c.in-Some.ensures.steps at l.invariant.2 in
    let bounds = chain_bounds c.args.keys.now p was l.before r c.next.new.self l.bytes c.requires.scheme now in
    let long : length c.cbc_decrypt-last.new.bytes ≡ r.to - r.from
    = omega (arith, c.cbc_decrypt-last.ensures.len, length-take (r.to - r.from) (drop r.from l.bytes), length-drop r.from l.bytes) in
    let given : ((r.fresh ≡ true) × (c.if-range.chained_to ≡ c.args.iv)) ⊎ ((r.fresh ≡ false) × (c.if-range.chained_to ≡ l.before))
    = elim c.if-range.branch [ then-range w ↦ inl (w.if-range.true, w.chained_to-is) | else-range w ↦ inr (w.if-range.false, w.chained_to-is) ] in (
      tt,
      tt,
      chain_step c.args.keys.now p was l.before r c.next.new.self l.bytes c.requires.scheme now
          c.args.iv c.if-range.chained_to c.cbc_decrypt-last.new.bytes c.cbc_decrypt-last.result
          (λ i s k place e. c.block_law.ensures p (length was) i s k place e) c.block_bytes_law.ensures.block c.block_bytes_law.ensures.exclusive_or
          c.requires.iv given long c.cbc_decrypt-last.ensures.opened c.cbc_decrypt-last.ensures.last,
    )

pub returns : goal.returns
returns c = chain_end c.args.keys.now c.args.protect.now c.args.sample.now.bytes c.loop-range.before c.loop-range.bytes c.loop-range.range-iterator c.in-None.ensures.steps.0 c.loop-range.invariant.2
