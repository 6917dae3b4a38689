use Rattle.std.proofs.Common.{IsTrue, ap, ◌∙◌, subst}
use Rattle.eme_types.specs.Fed.{are_distinct}
use Rattle.cdm_state.specs.Run.{Run}
use Rattle.player_core.specs.declared.settle.Turn.{Turn}
use Rattle.player_core.specs.Course.{Moves, Settles}
use Rattle.player_core.specs.Turns.{Turns}
use Rattle.player_core.proofs.Steps.{steps_none, steps_more, settles_after}
use Rattle.player_core.proofs.Lowers.{turn_lowers}
use Rattle.player_core.proofs.settle.settle_all.Goals as goal

pub loop-cdm-init : goal.loop-cdm-init
loop-cdm-init c = steps_none c.args.cdm.now

pub take_turn-requires-clause-delivered : goal.take_turn-requires-clause-delivered
take_turn-requires-clause-delivered c = c.loop-cdm.invariant.delivered c.requires.delivered

pub loop-cdm-preserved : goal.loop-cdm-preserved
loop-cdm-preserved c =
    let went : Moves c.loop-cdm.cdm c.take_turn.new.cdm = subst (λ (turn : Turn). Turns c.loop-cdm.cdm c.args.line turn c.take_turn.new.cdm) c.in-Went.is c.in_ok-take_turn.ensures in
    steps_more c.args.cdm.now c.loop-cdm.cdm c.take_turn.new.cdm c.loop-cdm.invariant went.0

-- each turn lowers what is left to do
pub loop-cdm-smaller : goal.loop-cdm-smaller
loop-cdm-smaller c =
    let went : Moves c.loop-cdm.cdm c.take_turn.new.cdm = subst (λ (turn : Turn). Turns c.loop-cdm.cdm c.args.line turn c.take_turn.new.cdm) c.in-Went.is c.in_ok-take_turn.ensures in
    let distinct : IsTrue (are_distinct c.loop-cdm.cdm.tracks) = ap (λ (r : Run). are_distinct r.tracks) c.loop-cdm.invariant.is ∙ c.requires.distinct in
    turn_lowers c.loop-cdm.cdm c.take_turn.new.cdm distinct (c.loop-cdm.invariant.delivered c.requires.delivered) c.history-legal.ensures.legal went

pub returns-in-Settled : goal.returns-in-Settled
returns-in-Settled c =
    let settled : Settles c.loop-cdm.cdm c.take_turn.new.cdm c.args.line = subst (λ (turn : Turn). Turns c.loop-cdm.cdm c.args.line turn c.take_turn.new.cdm) c.in-Settled.is c.in_ok-take_turn.ensures in
    settles_after c.args.cdm.now c.loop-cdm.cdm c.take_turn.new.cdm c.args.line c.loop-cdm.invariant settled
