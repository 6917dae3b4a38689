use Rattle.std.proofs.Common.{◌≡◌, ◌+◌, ◌-◌, false, sym, ◌∙◌, arith}
use Rattle.std.specs.List.{list_any}
use Rattle.output_order.specs.Lane.{is_of_lane}
use Rattle.shared_cdm.specs.Passes.{seen, own_places}
use Rattle.team_play.proofs.Teams.{lanes_begun, lanes_passed}
use Rattle.team_play.proofs.lanes.+fn-run_lanes-join_mut+arg3+run_lanes.Goals as goal

pub returns-then-k-eq0-clause-lanes : goal.returns-then-k-eq0-clause-lanes
returns-then-k-eq0-clause-lanes g t c = lanes_begun _ _ _ _ (own_places c.lead.result.0) (seen c.lead.result.0) _ c.if-k-eq0.true (rw (sym c.take.ensures.value ∙ c.in-Some.is) at c.requires.begins).left_ c.lead.ensures.led

pub returns-then-not-has_line-clause-lanes : goal.returns-then-not-has_line-clause-lanes
returns-then-not-has_line-clause-lanes g t c =
    let unnamed : list_any (is_of_lane c.args.k) c.args.script.now ≡ false = cc in
    lanes_passed _ _ _ (c.args.k - 1) (own_places c.run_lanes.result.0) (seen c.run_lanes.result.0) _ (omega (arith, c.if-k-eq0.false)) unnamed c.run_lanes.ensures.lanes
