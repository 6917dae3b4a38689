use Rattle.std.proofs.Common.{◌≡◌, ◌&&◌, true, false}
use Rattle.std.specs.Prelude.{◌==◌}
use Rattle.std.specs.List.{list_all}
use Rattle.output_order.specs.Lane.{is_of_lane}
use Rattle.player_core.proofs.Plays.{staffed_alone, not_alone, whole_complete, whole_staffed, whole_delivered, whole_serial}
use Rattle.player_core.proofs.with_workers.play.Goals as goal

pub returns-then-is_alone-clause-staffed : goal.returns-then-is_alone-clause-staffed
returns-then-is_alone-clause-staffed g c =
    let yes : (c.args.workers == 0 && list_all (is_of_lane 0) c.args.script.now) ≡ true = cc in
    staffed_alone _ _ _ yes c.play_alone.ensures.staffed

pub returns-clause-alone : goal.returns-clause-alone
returns-clause-alone g c =
    let no : (c.args.workers == 0 && list_all (is_of_lane 0) c.args.script.now) ≡ false = cc in
    not_alone _ _ _ _ no

pub returns-clause-complete : goal.returns-clause-complete
returns-clause-complete g c = whole_complete _ _ _ _ c.play_together.ensures.whole

pub returns-clause-staffed : goal.returns-clause-staffed
returns-clause-staffed g c = whole_staffed _ _ _ _ c.play_together.ensures.whole

pub returns-clause-delivered : goal.returns-clause-delivered
returns-clause-delivered g c = whole_delivered _ _ _ _ c.play_together.ensures.whole

pub returns-clause-serial : goal.returns-clause-serial
returns-clause-serial g c = whole_serial _ _ _ _ c.paced_scripts_have_one_answer.ensures c.requires.fed c.play_together.ensures.legal c.play_together.ensures.whole
