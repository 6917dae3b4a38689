use Rattle.key_claims.specs.Kept.{fed_id}
use Rattle.key_claims.proofs.Fitting.{fits_fed, ids_fed, still_distinct}
use Rattle.std.proofs.Common.{◌≡◌, ◌≤◌, ◌+◌, ◌∙◌, List, map, ap, arith}
use Rattle.eme_types.specs.Fed.{fragment_samples}
use Rattle.eme_types.specs.declared.limits.TheConstants.{MAX_SAMPLES}
use Rattle.eme_types.specs.declared.media.TrackPart.{TrackPart}
use Rattle.key_claims.specs.TracksState.{FedTrack}
use Rattle.key_claims.specs.TrackValue.{fed_track, all_fed}
use Rattle.key_claims.specs.Changes.{feed_all}
use Rattle.key_claims.specs.Feeds.{batch_part}
use Rattle.key_claims.proofs.Sound.{fed_all}
use Rattle.key_claims.proofs.tracks.Tracks.feed.Goals as goal

pub invariant_of-self-2 : goal.invariant_of-self-2
invariant_of-self-2 c =
    let ts = map fed_track c.self.inside.tracks.items in
    let parts = c.args.fragment.now.parts in
    let room : all_fed ts + fragment_samples c.args.fragment.now ≤ MAX_SAMPLES = rw (← c.self.view_is) at c.requires in
    let came : map fed_track c.add_batches.new.tracks.items ≡ feed_all ts parts = c.add_batches.ensures ∙ (ap (λ (xs : List FedTrack). feed_all xs (map batch_part c.in_ok-batches.batches.items)) c.in_ok-reserve_batches.ensures.same ∙ ap (λ (ps : List TrackPart). feed_all ts ps) (c.in_ok-batches.ensures ∙ c.as_slice.ensures)) in
    let most = fed_all ts parts in
    let all = ap (λ (xs : List FedTrack). all_fed xs) came in
    record { few = omega (arith, all, most, room); distinct = still_distinct ts (map fed_track c.add_batches.new.tracks.items) (ap (λ (xs : List FedTrack). map fed_id xs) came ∙ ids_fed ts parts) c.self.invariant.distinct; once = c.self.invariant.once; fits = rw came (λ x there. fits_fed ts parts x (c.self.invariant.fits x there)); apart = c.self.invariant.apart }
