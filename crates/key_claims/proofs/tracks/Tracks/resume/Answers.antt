use Rattle.key_claims.specs.Kept.{fed_id}
use Rattle.key_claims.proofs.Fitting.{fits_mapped, ids_mapped, still_distinct}
use Rattle.std.proofs.Common.{◌≡◌, ◌∙◌, List, map, ap, refl, arith}
use Rattle.key_claims.specs.TracksState.{FedTrack, TracksState}
use Rattle.key_claims.specs.TrackValue.{TrackValue, fed_track, resumed_value, all_fed}
use Rattle.key_claims.specs.Changes.{resumed_one}
use Rattle.key_claims.proofs.Lists.{map_seen}
use Rattle.key_claims.proofs.Sound.{fed_mapped}
use Rattle.key_claims.proofs.tracks.Tracks.resume.Goals as goal

pub invariant_of-self : goal.invariant_of-self
invariant_of-self g c =
    let picks = g.P.Picks.picks c.args.sessions.now in
    let vs = c.self.inside.tracks.items in
    let new : map fed_track c.resume_all.new.tracks.items ≡ map (resumed_one picks) (map fed_track vs) = ap (λ (us : List TrackValue). map fed_track us) c.resume_all.ensures ∙ map_seen (resumed_one picks) (resumed_value picks) vs (λ v. refl) in
    let all = ap (λ (ts : List FedTrack). all_fed ts) new ∙ fed_mapped (map fed_track vs) (resumed_one picks) (λ t. refl) in
    let ts = map fed_track vs in
    record { few = omega (arith, all, c.self.invariant.few); distinct = still_distinct ts (map fed_track c.resume_all.new.tracks.items) (ap (λ (xs : List FedTrack). map fed_id xs) new ∙ ids_mapped ts (resumed_one picks) (λ t. refl)) c.self.invariant.distinct; once = c.self.invariant.once; fits = rw new (λ x there. fits_mapped ts (resumed_one picks) (λ t. refl) (λ t. refl) (λ t. refl) x (c.self.invariant.fits x there)); apart = c.self.invariant.apart }

pub returns : goal.returns
returns g c =
    let picks = g.P.Picks.picks c.args.sessions.now in
    let vs = c.self.inside.tracks.items in
    let new : map fed_track c.resume_all.new.tracks.items ≡ map (resumed_one picks) (map fed_track vs) = ap (λ (us : List TrackValue). map fed_track us) c.resume_all.ensures ∙ map_seen (resumed_one picks) (resumed_value picks) vs (λ v. refl) in
    rw (← c.self.view_is) (ap (λ (ts : List FedTrack). let s : TracksState = record { tracks = ts; claims = c.self.inside.claims } in s) new)
