use Rattle.std.proofs.Common.{◌≡◌, ◌∙◌, ◌∷◌, [], map, ap, sym, subst}
use Rattle.key_claims.specs.TracksState.{FedTrack}
use Rattle.key_claims.specs.TrackValue.{TrackValue, fed_track}
use Rattle.key_claims.specs.Changes.{more_fed, StandsAt}
use Rattle.key_claims.specs.Feeds.{IsReadyFor}
use Rattle.key_claims.proofs.Lists.{change_none, change_here, room_for, took_set, seen_here, unwithin}
use Rattle.key_claims.proofs.feed.add_batch.Goals as goal

pub add-requires-clause-spare : goal.add-requires-clause-spare
add-requires-clause-spare c =
    let f : StandsAt (map fed_track c.args.tracks.now.items) c.args.batch.track c.in-Some.i = rw c.deref.ensures.value at c.in-Some.ensures in
    let u = c.index_mut-track.result.now in
    let lt = unwithin c.args.tracks.now.items c.in-Some.i f.within in
    let here = c.index_mut-track.ensures.value in
    let id : u.track.id ≡ c.args.batch.track = ap (λ (x : TrackValue). x.track.id) here ∙ seen_here (λ (t : FedTrack). t.id ≡ c.args.batch.track) c.args.tracks.now.items c.in-Some.i u.track lt (f.same u.track) u in
    (room_for c.args.batch u id (subst (λ (x : TrackValue). IsReadyFor (c.args.batch ∷ []) x) (sym here) (c.requires c.in-Some.i u lt))).0

pub add-requires-clause-room : goal.add-requires-clause-room
add-requires-clause-room c =
    let f : StandsAt (map fed_track c.args.tracks.now.items) c.args.batch.track c.in-Some.i = rw c.deref.ensures.value at c.in-Some.ensures in
    let u = c.index_mut-track.result.now in
    let lt = unwithin c.args.tracks.now.items c.in-Some.i f.within in
    let here = c.index_mut-track.ensures.value in
    let id : u.track.id ≡ c.args.batch.track = ap (λ (x : TrackValue). x.track.id) here ∙ seen_here (λ (t : FedTrack). t.id ≡ c.args.batch.track) c.args.tracks.now.items c.in-Some.i u.track lt (f.same u.track) u in
    (room_for c.args.batch u id (subst (λ (x : TrackValue). IsReadyFor (c.args.batch ∷ []) x) (sym here) (c.requires c.in-Some.i u lt))).1

pub returns-in-None-clause-fed : goal.returns-in-None-clause-fed
returns-in-None-clause-fed c = sym (change_none _ c.args.batch.track (more_fed c.args.batch.samples.items) (rw c.deref.ensures.value at c.in-None.ensures))

pub returns-in-Some-clause-took : goal.returns-in-Some-clause-took
returns-in-Some-clause-took c =
    let f : StandsAt (map fed_track c.args.tracks.now.items) c.args.batch.track c.in-Some.i = rw c.deref.ensures.value at c.in-Some.ensures in
    let u = c.index_mut-track.result.now in
    let lt = unwithin c.args.tracks.now.items c.in-Some.i f.within in
    let here = c.index_mut-track.ensures.value in
    let id : u.track.id ≡ c.args.batch.track = ap (λ (x : TrackValue). x.track.id) here ∙ seen_here (λ (t : FedTrack). t.id ≡ c.args.batch.track) c.args.tracks.now.items c.in-Some.i u.track lt (f.same u.track) u in
    took_set c.args.batch c.args.tracks.now.items c.in-Some.i c.add.new.self u lt here id c.add.ensures.fed c.add.ensures.spare c.add.ensures.room

pub returns-in-Some-clause-fed : goal.returns-in-Some-clause-fed
returns-in-Some-clause-fed c =
    let f : StandsAt (map fed_track c.args.tracks.now.items) c.args.batch.track c.in-Some.i = rw c.deref.ensures.value at c.in-Some.ensures in
    let u = c.index_mut-track.result.now in
    let lt = unwithin c.args.tracks.now.items c.in-Some.i f.within in
    let here = c.index_mut-track.ensures.value in
    let id : u.track.id ≡ c.args.batch.track = ap (λ (x : TrackValue). x.track.id) here ∙ seen_here (λ (t : FedTrack). t.id ≡ c.args.batch.track) c.args.tracks.now.items c.in-Some.i u.track lt (f.same u.track) u in
    change_here c.args.tracks.now.items c.in-Some.i c.args.batch.track (more_fed c.args.batch.samples.items) c.add.new.self u lt f.first here id c.add.ensures.fed
