use Rattle.std.proofs.Common.{◌≡◌, ◌++◌, take}
use Rattle.std.specs.List.{flat_map}
use Rattle.cdm_state.specs.OfSamples.{part_on}
use Rattle.serial_play.specs.declared.track.SerialTrack.{SerialTrack}
use Rattle.serial_play.proofs.track.SerialTrack.feed.Given as goal

-- the samples in the parts so far are fed
abbrev pub invariant-loop-part : goal.invariant-loop-part
invariant-loop-part l = l.self ≡ (let t : SerialTrack = record (l.fn.self) { fed = l.fn.self.fed ++ flat_map (part_on l.fn.self.id) (take l.part-index l.part-items) } in t)
