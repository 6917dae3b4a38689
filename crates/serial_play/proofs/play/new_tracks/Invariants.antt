use Rattle.std.proofs.Common.{◌≡◌, map, take}
use Rattle.serial_play.specs.Answer.{new_track}
use Rattle.serial_play.proofs.play.new_tracks.Given as goal

abbrev pub invariant-loop-id : goal.invariant-loop-id
invariant-loop-id l = l.tracks.items ≡ map new_track (take l.id-index l.ids)
