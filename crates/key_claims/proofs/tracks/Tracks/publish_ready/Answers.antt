use Rattle.key_claims.specs.Kept.{fed_id}
use Rattle.key_claims.proofs.Fitting.{fits_filter, fits_out, not_ready, apart_filter, ids_changed, still_distinct}
use Rattle.std.proofs.Common.{◌<◌, ◌∙◌, List, length, map, ap, refl, get_or, arith}
use Rattle.key_claims.specs.TracksState.{FedTrack}
use Rattle.key_claims.specs.TrackValue.{fed_track, all_fed}
use Rattle.key_claims.specs.Changes.{more_out}
use Rattle.key_claims.specs.Choice.{IsReady}
use Rattle.key_claims.specs.Claims.{is_other}
use Rattle.key_claims.proofs.Lists.{seen_here, unwithin, no_track}
use Rattle.key_claims.proofs.Sound.{once_filter, fed_changed}
use Rattle.key_claims.proofs.Readiness.{ready_fed, ready_clear, put_clear}
use Rattle.key_claims.proofs.tracks.Tracks.publish_ready.Goals as goal

pub put_opened-requires-clause-fed : goal.put_opened-requires-clause-fed
put_opened-requires-clause-fed c =
    let vs = c.self.inside.tracks.items in
    let r : IsReady c.self.inside.claims (map fed_track vs) c.in-Some.at c.in-Some.place = rw c.deref.ensures.value at c.in-Some.ensures in
    let lt = unwithin vs c.in-Some.at r.within in
    λ d. seen_here (λ (t : FedTrack). length t.outputs < length t.fed) vs c.in-Some.at no_track.track lt (ready_fed c.self.inside.claims (get_or (map fed_track c.self.inside.tracks.items) c.in-Some.at no_track.track) c.in-Some.place (r.on no_track.track)) d

pub invariant_of-self : goal.invariant_of-self
invariant_of-self c =
    let ts = map fed_track c.self.inside.tracks.items in
    let r : IsReady c.self.inside.claims ts c.in-Some.at c.in-Some.place = rw c.deref.ensures.value at c.in-Some.ensures in
    let clear = ready_clear c.self.inside.claims (get_or (map fed_track c.self.inside.tracks.items) c.in-Some.at no_track.track) c.in-Some.place c.self.invariant.once (r.on no_track.track) in
    let out = put_clear _ clear.0 _ _ (c.take-clear.ensures.clear ∙ clear.1) c.put_opened.ensures in
    let all = ap (λ (xs : List FedTrack). all_fed xs) out ∙ fed_changed ts c.in-Some.at (more_out clear.0) (λ t. refl) in
    record { few = omega (arith, all, c.self.invariant.few); distinct = still_distinct ts (map fed_track c.put_opened.new.tracks.items) (ap (λ (xs : List FedTrack). map fed_id xs) out ∙ ids_changed ts c.in-Some.at (more_out clear.0) (λ t. refl)) c.self.invariant.distinct; once = rw c.take-clear.ensures.rest (once_filter (is_other c.in-Some.place) c.self.inside.claims c.self.invariant.once); fits = rw (out, c.take-clear.ensures.rest) (λ x there. (let fit = fits_filter ts (is_other c.in-Some.place) c.self.inside.claims c.self.invariant.fits x there in fits_out ts c.in-Some.at clear.0 no_track.track r.within x fit (not_ready ts c.self.inside.claims c.in-Some.at c.in-Some.place no_track.track x r c.self.invariant.apart there fit))); apart = rw c.take-clear.ensures.rest (apart_filter (is_other c.in-Some.place) c.self.inside.claims c.self.invariant.apart) }

pub returns-in-Some-clause-ok : goal.returns-in-Some-clause-ok
returns-in-Some-clause-ok c =
    let ts = map fed_track c.self.inside.tracks.items in
    let r : IsReady c.self.inside.claims ts c.in-Some.at c.in-Some.place = rw c.deref.ensures.value at c.in-Some.ensures in
    let clear = ready_clear c.self.inside.claims (get_or (map fed_track c.self.inside.tracks.items) c.in-Some.at no_track.track) c.in-Some.place c.self.invariant.once (r.on no_track.track) in
    rw (← c.self.view_is) (record {
      at = c.in-Some.at;
      first = r;
      next = c.next_of-next.ensures;
      clear = clear.0;
      delivered = clear.1;
      tracks = put_clear _ clear.0 _ _ (c.take-clear.ensures.clear ∙ clear.1) c.put_opened.ensures;
      claims = c.take-clear.ensures.rest;
    })
