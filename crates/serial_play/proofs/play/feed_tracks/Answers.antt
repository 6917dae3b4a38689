use Rattle.std.proofs.Common.{◌<◌, length, ap, ◌∙◌, sym, arith}
use Rattle.std.specs.Prelude.{slice_set}
use Rattle.std.proofs.lemmas.List.Edits.{map_over_more}
use Rattle.serial_play.specs.declared.track.SerialTrack.{SerialTrack}
use Rattle.serial_play.specs.Answer.{fed_track}
use Rattle.serial_play.proofs.play.feed_tracks.Goals as goal

pub loop-track-preserved : goal.loop-track-preserved
loop-track-preserved c =
    let i = c.loop-track.track-index in
    let lt : i < length c.args.tracks.now = omega (arith, c.loop-track-test.true, c.loop-track.auto.tracks) in
    ap (λ (t : SerialTrack). slice_set c.loop-track.tracks i t) (c.in_ok-feed.ensures ∙ ap (fed_track c.args.fragment.now) (sym c.track-item.is)) ∙ map_over_more (fed_track c.args.fragment.now) c.args.tracks.now c.loop-track.tracks i c.track-item.result lt c.loop-track.invariant c.track-item.is
