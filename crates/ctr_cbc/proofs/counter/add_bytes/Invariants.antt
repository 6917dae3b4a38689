use Rattle.std.proofs.Common.{◌≡◌, ℕ, ◌<◌, ◌≤◌, bit_xor, get_or}
use Rattle.ctr_cbc.proofs.counter.add_bytes.Given as goal

abbrev pub invariant-loop-i : goal.invariant-loop-i
invariant-loop-i l =
    ((k : ℕ) → k < l.i → get_or l.bytes k 0 ≡ bit_xor (get_or l.initial.bytes k 0) (get_or l.stream k 0))
    × ((k : ℕ) → l.i ≤ k → get_or l.bytes k 0 ≡ get_or l.initial.bytes k 0)
