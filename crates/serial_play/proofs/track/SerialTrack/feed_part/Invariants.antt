use Rattle.std.proofs.Common.{◌≡◌, ◌++◌, take}
use Rattle.serial_play.specs.declared.track.SerialTrack.{SerialTrack}
use Rattle.serial_play.proofs.track.SerialTrack.feed_part.Given as goal

-- the samples so far are fed
abbrev pub invariant-loop-sample : goal.invariant-loop-sample
invariant-loop-sample l = l.self ≡ (let t : SerialTrack = record (l.fn.self) { fed = l.fn.self.fed ++ take l.sample-index l.sample-items } in t)
