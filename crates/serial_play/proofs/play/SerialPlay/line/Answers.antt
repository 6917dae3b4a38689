use Rattle.std.proofs.Common.{◌≡◌, false, List, length, map, Option, slice_get, ap, ◌∙◌, sym}
use Rattle.std.specs.Vec.{with_items}
use Rattle.std.proofs.lemmas.List.{length-map, with_items_is}
use Rattle.eme_types.specs.declared.media.Fragment.{Fragment}
use Rattle.key_sessions.specs.Machine.{Machine}
use Rattle.key_sessions.specs.Keys.{pick}
use Rattle.key_sessions.specs.Steps.{unmoved}
use Rattle.script_lang.specs.Paced.{settles}
use Rattle.serial_play.specs.Answer.{moved_track}
use Rattle.serial_play.specs.declared.track.SerialTrack.{SerialTrack}
use Rattle.serial_play.specs.declared.play.SerialPlay.{SerialPlay}
use Rattle.serial_play.proofs.Moments.{served_moment, begun_moment}
use Rattle.serial_play.proofs.Playing.{stands_after}
use Rattle.serial_play.proofs.play.SerialPlay.line.Goals as goal

pub returns-clause-stands : goal.returns-clause-stands
returns-clause-stands c tracks s stands =
    let other : settles c.args.action.now ≡ false = sym c.is_settle.ensures ∙ c.if-is_settle.false in
    let f : SerialTrack → SerialTrack = moved_track (pick c.serve.new.sessions.machine) in
    let out : List SerialTrack = c.advance_tracks.new.tracks in
    let many : length out ≡ c.begin.new.self.tracks.len = ap length c.in_ok-advance_tracks.ensures ∙ (length-map c.as_mut_slice.result.now f ∙ c.as_mut_slice.ensures.len) in
    let new : SerialPlay = record { sessions = c.serve.new.sessions; tracks = with_items c.begin.new.self.tracks c.advance_tracks.new.tracks; left = c.begin.new.self.left } in
    stands_after tracks c.args.action.now s c.args.self.now c.begin.new.self new other c.in_ok-begin.ensures c.in_ok-serve.ensures.done c.in_ok-serve.ensures.idle (with_items_is c.begin.new.self.tracks out many ∙ (c.in_ok-advance_tracks.ensures ∙ ap (λ (ts : List SerialTrack). map (moved_track (pick c.serve.new.sessions.machine)) ts) c.as_mut_slice.ensures.value)) stands

pub returns-clause-moment : goal.returns-clause-moment
returns-clause-moment c =
    let given : Option Fragment = slice_get c.args.self.now.left.now 0 in
    ap (λ (m : Machine). m.moment) c.in_ok-serve.ensures.done ∙ (served_moment (unmoved c.begin.new.self.sessions.machine) ∙ (ap (λ (m : Machine). m.moment) c.in_ok-begin.ensures.machine ∙ begun_moment c.args.action.now given c.args.self.now.sessions.machine))
