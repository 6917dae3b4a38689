use Rattle.std.proofs.Common.{◌≡◌, ◌*◌, length}
use Rattle.player_core.specs.Demo.{words_of, next_bytes}
use Rattle.player_core.proofs.demo.next_words.Given as goal

-- the words so far
abbrev pub invariant-loop-k : goal.invariant-loop-k
invariant-loop-k l = record { bytes : (l.bytes, words_of l.rng) ≡ next_bytes l.k (words_of l.fn.rng); many : length l.bytes ≡ 8 * l.k }
