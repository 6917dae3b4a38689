use Rattle.key_claims.specs.Kept.{fed_id}
use Rattle.key_claims.proofs.Fitting.{fits_out, not_clear, ids_changed, still_distinct}
use Rattle.std.proofs.Common.{◌≡◌, ◌<◌, ◌∙◌, List, Some, length, map, ap, refl, get_or, arith}
use Rattle.cdm_world.specs.Tracks.{head}
use Rattle.key_claims.specs.TracksState.{FedTrack, track_of}
use Rattle.key_claims.specs.TrackValue.{fed_track, all_fed}
use Rattle.key_claims.specs.Changes.{more_out}
use Rattle.key_claims.specs.Choice.{IsFirst, has_clear_head}
use Rattle.key_claims.proofs.Lists.{seen_here, any_seen, unwithin, no_track}
use Rattle.key_claims.proofs.Sound.{fed_changed}
use Rattle.key_claims.proofs.Readiness.{clear_head, clear_protect, head_fed}
use Rattle.key_claims.proofs.tracks.Tracks.pass_clear.Goals as goal

pub put_same-requires-clause-fed : goal.put_same-requires-clause-fed
put_same-requires-clause-fed c =
    let vs = c.self.inside.tracks.items in
    let first : IsFirst has_clear_head (map fed_track vs) c.in-Some.at = rw c.deref.ensures.value at c.in-Some.ensures in
    let lt = unwithin vs c.in-Some.at first.within in
    let x = clear_head (get_or (map fed_track vs) c.in-Some.at no_track.track) (first.on no_track.track) in
    λ d. seen_here (λ (t : FedTrack). length t.outputs < length t.fed) vs c.in-Some.at no_track.track lt (head_fed (get_or (map fed_track vs) c.in-Some.at no_track.track) x.0 x.1) d

pub invariant_of-self : goal.invariant_of-self
invariant_of-self c =
    let vs = c.self.inside.tracks.items in
    let first : IsFirst has_clear_head (map fed_track vs) c.in-Some.at = rw c.deref.ensures.value at c.in-Some.ensures in
    let lt = unwithin vs c.in-Some.at first.within in
    let x = clear_head (get_or (map fed_track vs) c.in-Some.at no_track.track) (first.on no_track.track) in
    let out = c.put_same.ensures x.0 (any_seen (λ (t : FedTrack). head (track_of t) ≡ Some x.0) vs c.in-Some.at no_track.track lt x.1) in
    let all = ap (λ (ts : List FedTrack). all_fed ts) out ∙ fed_changed (map fed_track vs) c.in-Some.at (more_out x.0.bytes) (λ t. refl) in
    record { few = omega (arith, all, c.self.invariant.few); distinct = still_distinct (map fed_track vs) (map fed_track c.put_same.new.tracks.items) (ap (λ (ts : List FedTrack). map fed_id ts) out ∙ ids_changed (map fed_track vs) c.in-Some.at (more_out x.0.bytes) (λ t. refl)) c.self.invariant.distinct; once = c.self.invariant.once; fits = rw out (λ d there. (let fit = c.self.invariant.fits d there in fits_out (map fed_track vs) c.in-Some.at x.0.bytes no_track.track first.within d fit (not_clear (map fed_track vs) c.in-Some.at no_track.track d fit x.0 x.1 (clear_protect (get_or (map fed_track vs) c.in-Some.at no_track.track) x.0 x.1 (first.on no_track.track))))); apart = c.self.invariant.apart }

pub returns-in-Some-clause-ok : goal.returns-in-Some-clause-ok
returns-in-Some-clause-ok c =
    let vs = c.self.inside.tracks.items in
    let first : IsFirst has_clear_head (map fed_track vs) c.in-Some.at = rw c.deref.ensures.value at c.in-Some.ensures in
    let lt = unwithin vs c.in-Some.at first.within in
    let x = clear_head (get_or (map fed_track vs) c.in-Some.at no_track.track) (first.on no_track.track) in
    let heads = any_seen (λ (t : FedTrack). head (track_of t) ≡ Some x.0) vs c.in-Some.at no_track.track lt x.1 in
    rw (← c.self.view_is) (record {
      at = c.in-Some.at;
      first = first;
      next = c.next_of-next.ensures;
      sample = x.0;
      head_ = heads;
      tracks = c.put_same.ensures x.0 heads;
      claims = refl;
    })
