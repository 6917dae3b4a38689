use Rattle.std.proofs.Common.{◌≡◌, ◌+◌, ◌≤◌, take, length}
use Rattle.std.specs.List.{sum_by}
use Rattle.cdm_state.specs.Output.{out}
use Rattle.output_order.proofs.track.sizes_beyond.Given as goal

-- the bytes of the samples from the first on and before the index
abbrev pub invariant-loop-index : goal.invariant-loop-index
invariant-loop-index l = record {
  within : l.index ≤ length (out l.cdm.tracks l.cdm.history l.track);
  bytes : sum_by length (take l.index (out l.cdm.tracks l.cdm.history l.track)) ≡ sum_by length (take l.first (out l.cdm.tracks l.cdm.history l.track)) + l.bytes;
}
