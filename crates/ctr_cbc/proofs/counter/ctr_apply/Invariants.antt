use Rattle.std.proofs.Common.{◌≡◌, ℕ, ◌+◌, ◌-◌, ◌<◌, ◌≤◌, bit_xor, get_or, length}
use Rattle.ctr_cbc.specs.KeyStream.{stream_byte}
use Rattle.ctr_cbc.proofs.counter.ctr_apply.Given as goal

abbrev pub invariant-loop-at : goal.invariant-loop-at
invariant-loop-at l = record {
  within : l.at ≤ length l.bytes;
  added : (k : ℕ) → k < l.at → get_or l.bytes k 0 ≡ bit_xor (get_or l.initial.bytes k 0) (stream_byte l.keys l.iv (l.from + k));
  rest : (k : ℕ) → l.at ≤ k → get_or l.bytes k 0 ≡ get_or l.initial.bytes k 0;
}

abbrev pub decreases-loop-at : goal.decreases-loop-at
decreases-loop-at l = length l.initial.bytes - l.at
