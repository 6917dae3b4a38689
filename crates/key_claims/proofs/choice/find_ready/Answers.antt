use Rattle.std.proofs.Common.{◌≡◌, None, Some, sym, subst}
use Rattle.key_claims.specs.TracksState.{FedTrack}
use Rattle.key_claims.specs.TrackValue.{TrackValue}
use Rattle.key_claims.specs.Choice.{ready_on}
use Rattle.key_claims.proofs.Lists.{here, before_more, all_of, within}
use Rattle.key_claims.proofs.choice.find_ready.Goals as goal

pub returns-in-Some : goal.returns-in-Some
returns-in-Some c =
    let vs = c.args.tracks.now in
    let v = c.index-tracks-at.result in
    let at = c.index-tracks-at.is in
    record {
      within = within vs c.loop-at.at c.loop-at-test.true;
      on = here (λ (t : FedTrack). ready_on c.args.claims.now t ≡ Some c.in-Some.place) vs c.loop-at.at v c.loop-at-test.true (subst (λ (x : TrackValue). ready_on c.args.claims.now x.track ≡ Some c.in-Some.place) at (sym c.in-Some.ensures));
      first = c.loop-at.invariant;
    }

pub loop-at-preserved : goal.loop-at-preserved
loop-at-preserved c =
    let v = c.index-tracks-at.result in
    before_more (λ (t : FedTrack). ready_on c.args.claims.now t ≡ None) c.args.tracks.now c.loop-at.at v c.loop-at-test.true c.loop-at.invariant (subst (λ (x : TrackValue). ready_on c.args.claims.now x.track ≡ None) c.index-tracks-at.is (sym c.in-None.ensures))

pub returns : goal.returns
returns c = all_of (λ (t : FedTrack). ready_on c.args.claims.now t ≡ None) c.args.tracks.now c.loop-at.at c.loop-at-test.false c.loop-at.invariant
