use Rattle.std.proofs.Common.{◌≡◌, ◌++◌, take, map}
use Rattle.std.specs.List.{flat_map}
use Rattle.std.specs.Int.{w32, to_be_bytes}
use Rattle.eme_types.specs.Fed.{sample_bytes}
use Rattle.seal_media.proofs.fragment.put_sizes.Given as goal

abbrev pub invariant-loop-sample : goal.invariant-loop-sample
invariant-loop-sample l = l.body ≡ l.fn.body ++ flat_map (to_be_bytes w32) (map sample_bytes (take l.sample-index l.samples))
