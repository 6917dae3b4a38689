use Rattle.std.proofs.Common.{◌≡◌, ◌-◌, length, drop, arith, length-take, length-drop}
use Rattle.pattern_map.specs.Coverage.{CoverSample}
use Rattle.sample_crypt.proofs.Opening.{all_to_come}
use Rattle.sample_crypt.proofs.Streams.{stream_start, stream_bounds, stream_step, stream_end}
use Rattle.sample_crypt.proofs.stream.open_stream.Goals as goal

pub loop-range-init : goal.loop-range-init
loop-range-init c =
    let s = c.args.sample.now in
    let cover : CoverSample c.args.sample.now c.into_iter-range-iterator.result
    = rw c.into_iter-range-iterator.ensures.into_iter_gives c.ranges-range-items.ensures.cover in
    (tt, tt, stream_start _ c.args.protect.now s.bytes _ _ c.requires.copy (all_to_come s.protect c.args.protect.now s.bytes _ c.requires.protected cover))

pub loop-range-preserved : goal.loop-range-preserved
loop-range-preserved c =
    let l = c.loop-range in
    let r = c.in-Some.range in
    let now = rw c.in-Some.ensures.steps at l.invariant.2 in
    let bounds = stream_bounds c.args.keys.now c.args.protect.now c.args.sample.now.bytes l.from r c.next.new.self l.bytes c.requires.scheme now in
    let long : length c.ctr_apply.new.bytes ≡ r.to - r.from
    = omega (arith, c.ctr_apply.ensures.len, length-take (r.to - r.from) (drop r.from l.bytes), length-drop r.from l.bytes) in (
      tt,
      tt,
      stream_step c.args.keys.now c.args.protect.now c.args.sample.now.bytes l.from r c.next.new.self l.bytes c.requires.scheme now
          c.first_counter-iv.result c.ctr_apply.new.bytes long c.ctr_apply.ensures.added (c.first_counter-iv.ensures c.args.keys.now),
    )

pub returns : goal.returns
returns c = stream_end c.args.keys.now c.args.protect.now c.args.sample.now.bytes c.loop-range.bytes c.loop-range.from c.loop-range.range-iterator c.in-None.ensures.steps.0 c.loop-range.invariant.2
