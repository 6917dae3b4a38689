use Rattle.std.proofs.Common.{◌≡◌, map, take}
use Rattle.frag_boxes.specs.Tracks.{track_id}
use Rattle.track_media.proofs.mp4_reader.track_ids.Given as goal

abbrev pub invariant-loop-track : goal.invariant-loop-track
invariant-loop-track l = l.ids ≡ map track_id (take l.track-index l.tracks)
