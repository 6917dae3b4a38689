use Rattle.std.proofs.Common.{◌≡◌, ◌++◌, take}
use Rattle.std.specs.List.{concat}
use Rattle.cdm_state.specs.Output.{out}
use Rattle.output_order.proofs.track.track_beyond.Given as goal

-- the samples from the first on and before the index
abbrev pub invariant-loop-index : goal.invariant-loop-index
invariant-loop-index l = concat (take l.index (out l.cdm.tracks l.cdm.history l.track)) ≡ concat (take l.first (out l.cdm.tracks l.cdm.history l.track)) ++ l.joined
