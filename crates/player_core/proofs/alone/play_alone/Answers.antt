use Rattle.std.proofs.Common.{◌∙◌}
use Rattle.player_core.proofs.Courses.{gone_none, is_complete, is_staffed, is_alone}
use Rattle.player_core.proofs.alone.play_alone.Goals as goal

pub play_lines-requires : goal.play_lines-requires
play_lines-requires c = (c.args.media, gone_none c.args.script.now c.args.media c.from_vec-left.result.items c.in_ok-cdm.cdm c.requires.fed (c.from_vec-left.ensures.items ∙ c.into_vec.ensures) c.in_ok-cdm.ensures)

pub play_rest-requires : goal.play_rest-requires
play_rest-requires c = (c.args.media, c.in_ok-play_lines.ensures c.args.media (gone_none c.args.script.now c.args.media c.from_vec-left.result.items c.in_ok-cdm.cdm c.requires.fed (c.from_vec-left.ensures.items ∙ c.into_vec.ensures) c.in_ok-cdm.ensures))

pub returns : goal.returns
returns c =
    let begun = gone_none c.args.script.now c.args.media c.from_vec-left.result.items c.in_ok-cdm.cdm c.requires.fed (c.from_vec-left.ensures.items ∙ c.into_vec.ensures) c.in_ok-cdm.ensures in
    let followed = c.in_ok-play_rest.ensures c.args.media (c.in_ok-play_lines.ensures c.args.media begun) in
    let alone = is_alone c.args.script.now c.args.media c.play_rest.new.cdm c.history-legal.ensures.legal followed in
    record {
      tracks = followed.fed.tracks;
      alone = alone;
      complete = is_complete c.args.script.now c.args.media c.play_rest.new.cdm followed;
      staffed = is_staffed c.play_rest.new.cdm followed.fed.alone;
      delivered = followed.fed.delivered;
      serial = c.paced_scripts_have_one_answer.ensures c.args.script.now c.args.media c.play_rest.new.cdm.history c.requires.fed alone.legal alone.complete;
    }
