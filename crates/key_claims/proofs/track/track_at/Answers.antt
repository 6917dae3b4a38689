use Rattle.std.proofs.Common.{◌≡◌, ◌≤◌, ◌∙◌, false, eqb, length, get_or, map, sym, ap, subst, arith, None}
use Rattle.std.proofs.lemmas.List.{take_all}
use Rattle.key_claims.specs.TracksState.{FedTrack}
use Rattle.key_claims.specs.TrackValue.{TrackValue, fed_track}
use Rattle.key_claims.specs.Changes.{find_fed}
use Rattle.std.proofs.Common.{List}
use Rattle.key_claims.proofs.Lists.{none_more, not_same, stands_here, seen_length}
use Rattle.key_claims.proofs.track.track_at.Goals as goal

pub returns-then-id : goal.returns-then-id
returns-then-id c =
    let v = c.index-tracks-i.result in
    let same : (get_or c.args.tracks.now c.loop-i.i v).track.id ≡ c.args.id = ap (λ (x : TrackValue). x.track.id) (sym c.index-tracks-i.is) ∙ (sym c.id.ensures ∙ c.if-id.true) in
    stands_here c.args.tracks.now c.loop-i.i c.args.id v c.loop-i-test.true c.loop-i.invariant same

pub loop-i-preserved : goal.loop-i-preserved
loop-i-preserved c =
    let v = c.index-tracks-i.result in
    let is : eqb v.track.id c.args.id ≡ false = not_same v.track.id c.args.id (λ e. c.if-id.false (c.id.ensures ∙ e)) in
    none_more c.args.tracks.now c.loop-i.i c.args.id v c.loop-i-test.true c.loop-i.invariant (rw (← c.index-tracks-i.is) is)

pub returns : goal.returns
returns c = (let all : length (map fed_track c.args.tracks.now) ≤ c.loop-i.i = omega (arith, seen_length c.args.tracks.now, c.loop-i-test.false) in subst (λ (ts : List FedTrack). find_fed ts c.args.id ≡ None) (take_all c.loop-i.i (map fed_track c.args.tracks.now) all) c.loop-i.invariant)
