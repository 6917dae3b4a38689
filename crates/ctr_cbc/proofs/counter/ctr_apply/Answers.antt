use Rattle.std.proofs.Common.{◌≡◌, ◌≤◌, ◌+◌, ◌-◌, ◌%◌, length, drop, arith, inl, inr, ◌∙◌, length-take, length-drop, rules}
use Rattle.std.proofs.lemmas.Bool.{cases_lt}
use Rattle.std.proofs.lemmas.List.{places}
use Rattle.ctr_cbc.proofs.StreamLemmas.{before, after, part_at}
use Rattle.ctr_cbc.proofs.counter.ctr_apply.Goals as goal

pub loop-at-preserved : goal.loop-at-preserved
loop-at-preserved c =
    let l = c.loop-at in
    let n = c.args.from + l.at in
    let count = c.min-count.result in
    let ys = c.add_stream.new.bytes in
    let within : l.at + count ≤ length l.bytes = omega (arith, c.min-count.ensures) in
    let fits : n % 16 + count ≤ 16 = omega (arith, c.min-count.ensures) in
    let same : length ys ≡ l.at + count - l.at = omega (arith, c.add_stream.auto.bytes, length-take (l.at + count - l.at) (drop l.at l.bytes), length-drop l.at l.bytes) in
    let block = rw c.counter_block.ensures at c.encrypt_block-stream.ensures in
    record {
      within = search (rules, places);
      added = λ k lt. elim (cases_lt k l.at) [
        | inl low ↦ before l.at (l.at + count - l.at) l.bytes ys k (omega arith) low ∙ l.invariant.added k low
        | inr high ↦ part_at c.args.keys.now c.args.iv c.args.from l.at count k l.bytes ys c.encrypt_block-stream.result c.args.bytes.now within high lt fits same block c.add_stream.ensures (l.invariant.rest k high)
      ];
      rest = λ k past. after l.at (l.at + count - l.at) l.bytes ys k (omega arith) same (omega arith) ∙ l.invariant.rest k (omega arith);
    }
