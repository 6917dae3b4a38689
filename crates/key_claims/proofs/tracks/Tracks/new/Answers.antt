use Rattle.std.proofs.Common.{map}
use Rattle.eme_types.specs.Fed.{are_distinct}
use Rattle.key_claims.specs.Kept.{fed_id}
use Rattle.key_claims.proofs.Fitting.{ids_empty}
use Rattle.std.proofs.Common.{◌∙◌, List, ap, arith}
use Rattle.key_claims.specs.TracksState.{FedTrack}
use Rattle.key_claims.specs.TrackValue.{all_fed}
use Rattle.key_claims.proofs.Sound.{fed_empty}
use Rattle.key_claims.proofs.tracks.Tracks.new.Goals as goal

pub invariant_of-result : goal.invariant_of-result
invariant_of-result c =
    let none = ap (λ (ts : List FedTrack). all_fed ts) c.in_ok-empty_tracks.ensures ∙ fed_empty c.as_slice.result.now in
    record { few = omega (arith, none); distinct = ap are_distinct (ap (λ (ts : List FedTrack). map fed_id ts) c.in_ok-empty_tracks.ensures ∙ (ids_empty c.as_slice.result.now ∙ c.as_slice.ensures)) ∙ c.requires; once = rw c.new.ensures tt; fits = rw c.new.ensures (λ x there. absurd there); apart = rw c.new.ensures tt }
