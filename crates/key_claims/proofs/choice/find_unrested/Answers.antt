use Rattle.std.proofs.Common.{◌≡◌, true, false, subst, rules}
use Rattle.key_claims.specs.TracksState.{FedTrack}
use Rattle.key_claims.specs.TrackValue.{TrackValue}
use Rattle.key_claims.specs.Choice.{rests}
use Rattle.key_claims.proofs.Lists.{here, before_more, all_of, within}
use Rattle.key_claims.proofs.choice.find_unrested.Goals as goal

pub returns-then-not-is_at_rest : goal.returns-then-not-is_at_rest
returns-then-not-is_at_rest g c =
    let vs = c.args.tracks.now in
    let v = c.index-tracks-at.result in
    let at = c.index-tracks-at.is in
    let q : rests (g.P.Picks.picks c.args.sessions.now) v.track ≡ false = search rules in
    record {
      within = within vs c.loop-at.at c.loop-at-test.true;
      on = here (λ (t : FedTrack). rests (g.P.Picks.picks c.args.sessions.now) t ≡ false) vs c.loop-at.at v c.loop-at-test.true (subst (λ (x : TrackValue). rests (g.P.Picks.picks c.args.sessions.now) x.track ≡ false) at q);
      before = c.loop-at.invariant;
    }

pub loop-at-preserved : goal.loop-at-preserved
loop-at-preserved g c =
    let v = c.index-tracks-at.result in
    before_more (λ (t : FedTrack). rests (g.P.Picks.picks c.args.sessions.now) t ≡ true) c.args.tracks.now c.loop-at.at v c.loop-at-test.true c.loop-at.invariant (subst (λ (x : TrackValue). rests (g.P.Picks.picks c.args.sessions.now) x.track ≡ true) c.index-tracks-at.is ((let q : rests (g.P.Picks.picks c.args.sessions.now) v.track ≡ true = search rules in q)))

pub returns : goal.returns
returns g c = all_of (λ (t : FedTrack). rests (g.P.Picks.picks c.args.sessions.now) t ≡ true) c.args.tracks.now c.loop-at.at c.loop-at-test.false c.loop-at.invariant
