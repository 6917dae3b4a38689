use Rattle.std.proofs.Common.{◌≡◌, ◌++◌, codes}
use Rattle.player_core.specs.Demo.{words_of, joined, times, fragment_at, behind_fragment}
use Rattle.player_core.proofs.demo.media_text.Given as goal

-- the fragments so far
abbrev pub invariant-loop-f : goal.invariant-loop-f
invariant-loop-f l = record {
  out : l.out ≡ codes "SMPL 1\ntrack 1\ntrack 2\n" ++ joined (fragment_at l.keys (words_of l.fn.rng)) l.f;
  words : words_of l.rng ≡ times behind_fragment l.f (words_of l.fn.rng);
}
