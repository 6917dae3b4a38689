use Rattle.std.proofs.Common.{◌≡◌, ◌++◌}
use Rattle.player_core.specs.Demo.{words_of, joined, times, sample_line, behind_sample}
use Rattle.player_core.proofs.demo.put_samples.Given as goal

-- the samples so far
abbrev pub invariant-loop-i : goal.invariant-loop-i
invariant-loop-i l = record {
  out : l.out ≡ l.fn.out ++ joined (λ i. sample_line l.scheme l.kid (times behind_sample i (words_of l.fn.rng))) l.i;
  words : words_of l.rng ≡ times behind_sample l.i (words_of l.fn.rng);
}
