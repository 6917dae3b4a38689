use Rattle.std.proofs.Common.{◌≡◌, ◌↔◌, ℕ, true, Bool, IsTrue, List, [], map, Some, ap, ◌∙◌, sym, subst}
use Rattle.std.specs.List.{concat}
use Rattle.key_sessions.specs.Machine.{Machine}
use Rattle.script_lang.specs.declared.script.Line.{Line}
use Rattle.script_lang.specs.Script.{IsScript}
use Rattle.serial_play.specs.Serial.{serial, Agreeing}
use Rattle.serial_play.proofs.Ending.{has_begun, IsEnd, is_end, files_at_end}
use Rattle.serial_play.proofs.outcome.serial_end.Goals as goal

pub play_lines-requires : goal.play_lines-requires
play_lines-requires c =
    let script : List Line = c.as_slice.result.now in
    let is : IsScript script = subst IsScript (sym c.as_slice.ensures.value) c.as_slice.ensures.script in
    let begun = has_begun script c.args.media.now c.in_ok-play.play c.requires.fed is c.in_ok-play.ensures.stands c.in_ok-play.ensures.left in
    (c.args.media.now, begun)

pub play_rest-requires : goal.play_rest-requires
play_rest-requires c =
    let script : List Line = c.as_slice.result.now in
    let is : IsScript script = subst IsScript (sym c.as_slice.ensures.value) c.as_slice.ensures.script in
    let begun = has_begun script c.args.media.now c.in_ok-play.play c.requires.fed is c.in_ok-play.ensures.stands c.in_ok-play.ensures.left in
    (c.in_ok-agreeing.ensures c.args.media.now begun).formed

pub promises_of-requires : goal.promises_of-requires
promises_of-requires c =
    let script : List Line = c.as_slice.result.now in
    let is : IsScript script = subst IsScript (sym c.as_slice.ensures.value) c.as_slice.ensures.script in
    let begun = has_begun script c.args.media.now c.in_ok-play.play c.requires.fed is c.in_ok-play.ensures.stands c.in_ok-play.ensures.left in
    let end : IsEnd script c.args.media.now c.in_ok-agreeing.agreeing c.play_rest.new.play = is_end script c.args.media.now c.in_ok-agreeing.agreeing c.in_ok-play.play c.play_lines.new.play c.play_rest.new.play begun c.in_ok-agreeing.ensures c.in_ok-play_rest.ensures in
    end.stands.idle

pub returns-clause-agreeing : goal.returns-clause-agreeing
returns-clause-agreeing c =
    let script : List Line = c.as_slice.result.now in
    let is : IsScript script = subst IsScript (sym c.as_slice.ensures.value) c.as_slice.ensures.script in
    let begun = has_begun script c.args.media.now c.in_ok-play.play c.requires.fed is c.in_ok-play.ensures.stands c.in_ok-play.ensures.left in
    let end : IsEnd script c.args.media.now c.in_ok-agreeing.agreeing c.play_rest.new.play = is_end script c.args.media.now c.in_ok-agreeing.agreeing c.in_ok-play.play c.play_lines.new.play c.play_rest.new.play begun c.in_ok-agreeing.ensures c.in_ok-play_rest.ensures in
    subst (λ (ls : List Line). IsTrue c.in_ok-agreeing.agreeing ↔ Agreeing ls c.args.media.now) c.as_slice.ensures.value end.agree

pub returns-clause-tracks : goal.returns-clause-tracks
returns-clause-tracks c =
    let script : List Line = c.as_slice.result.now in
    let is : IsScript script = subst IsScript (sym c.as_slice.ensures.value) c.as_slice.ensures.script in
    let begun = has_begun script c.args.media.now c.in_ok-play.play c.requires.fed is c.in_ok-play.ensures.stands c.in_ok-play.ensures.left in
    let end : IsEnd script c.args.media.now c.in_ok-agreeing.agreeing c.play_rest.new.play = is_end script c.args.media.now c.in_ok-agreeing.agreeing c.in_ok-play.play c.play_lines.new.play c.play_rest.new.play begun c.in_ok-agreeing.ensures c.in_ok-play_rest.ensures in
    c.in_ok-tracks.ensures ∙ (files_at_end script c.args.media.now c.in_ok-agreeing.agreeing c.play_rest.new.play end ∙ ap (λ (ls : List Line). map (λ track. (track, concat ((serial ls c.args.media.now).out track))) c.args.media.now.tracks) c.as_slice.ensures.value)

pub returns-clause-results : goal.returns-clause-results
returns-clause-results c =
    let script : List Line = c.as_slice.result.now in
    let is : IsScript script = subst IsScript (sym c.as_slice.ensures.value) c.as_slice.ensures.script in
    let begun = has_begun script c.args.media.now c.in_ok-play.play c.requires.fed is c.in_ok-play.ensures.stands c.in_ok-play.ensures.left in
    let end : IsEnd script c.args.media.now c.in_ok-agreeing.agreeing c.play_rest.new.play = is_end script c.args.media.now c.in_ok-agreeing.agreeing c.in_ok-play.play c.play_lines.new.play c.play_rest.new.play begun c.in_ok-agreeing.ensures c.in_ok-play_rest.ensures in
    c.in_ok-results.ensures ∙ (ap (λ (m : Machine). m.promises) end.stands.machine ∙ ap (λ (ls : List Line). (serial ls c.args.media.now).machine.promises) c.as_slice.ensures.value)
