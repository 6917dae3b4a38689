use Rattle.std.proofs.Common.{◌≡◌, ◌≤◌, ◌*◌, take}
use Rattle.std.specs.List.{sum_by}
use Rattle.eme_types.specs.Fed.{sample_bytes}
use Rattle.player_core.proofs.inspect.size_of.Given as goal

-- the bytes of the samples so far, which 128 bits hold
abbrev pub invariant-loop-sample : goal.invariant-loop-sample
invariant-loop-sample l = (l.size ≡ sum_by sample_bytes (take l.sample-index l.samples)) × (l.size ≤ l.sample-index * 18446744073709551615)
