use Rattle.cdm_world.specs.Tracks.{TrackState, empty_track}
use Rattle.cdm_state.specs.Contract.{FirstBusy}
use Rattle.cdm_state.specs.History.{world, AtRest}
use Rattle.player_core.proofs.Steps.{settles_now}
use Rattle.player_core.proofs.settle.settle_now.Goals as goal

-- at rest no track is busy
pub unreachable-requires-in-Err-Track : goal.unreachable-requires-in-Err-Track
unreachable-requires-in-Err-Track c =
    let rest : AtRest (world c.args.cdm.now.tracks c.args.cdm.now.history) = c.what_has_nothing_to_do_is_at_rest.ensures c.args.cdm.now.tracks c.args.cdm.now.history c.requires.distinct c.history-legal.ensures.legal c.requires.delivered c.requires.idle in
    let d : TrackState = empty_track 0 in
    let busy : FirstBusy (world c.args.cdm.now.tracks c.args.cdm.now.history) c.in-Err-Track.field-0-0 = (rw c.in-Err-Track.field-0-is at c.in-Err-Track.ensures.fault).2 in
    busy.busy d (rest.tracks busy.at d busy.within)

pub returns-in-Ok : goal.returns-in-Ok
returns-in-Ok c = settles_now c.args.cdm.now c.settle.new.self c.args.line c.in-Ok.ensures.ok c.in-Ok.ensures.rest c.requires.delivered c.requires.idle
