use Rattle.cdm_state.proofs.Resuming.{waits_only}
use Rattle.cdm_state.proofs.law.tracks_wait_only_for_keys.Goals as goal

pub returns : goal.returns
returns c = waits_only
