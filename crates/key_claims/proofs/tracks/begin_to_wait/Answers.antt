use Rattle.std.proofs.Common.{true, ap}
use Rattle.key_claims.specs.TrackValue.{TrackValue}
use Rattle.key_claims.specs.Changes.{with_waiting}
use Rattle.key_claims.proofs.Lists.{changed_is}
use Rattle.key_claims.proofs.tracks.begin_to_wait.Goals as goal

pub returns : goal.returns
returns c = changed_is c.args.tracks.now.items c.args.at (with_waiting true) c.set_waiting.new.self c.index_mut-track.result.now c.requires c.index_mut-track.ensures.value (ap (λ (v : TrackValue). v.track) c.set_waiting.ensures)
