use Rattle.std.proofs.Common.{get_or, map, ℕ, sym, subst}
use Rattle.key_claims.specs.TracksState.{FedTrack}
use Rattle.key_claims.specs.TrackValue.{TrackValue, fed_track}
use Rattle.key_claims.specs.Choice.{NoWorkOn, IsWorkOn}
use Rattle.key_claims.proofs.Lists.{here, before_more, all_of, within}
use Rattle.key_claims.proofs.choice.find_work.Goals as goal

pub returns-in-Some : goal.returns-in-Some
returns-in-Some g c =
    let vs = c.args.tracks.now in
    let v = c.index-tracks-at.result in
    let at = c.index-tracks-at.is in
    let lt = c.loop-at-test.true in
    let w = c.in-Some.work in
    let e = c.in-Some.ensures.at in
    record {
      within = rw e (within vs c.loop-at.at lt);
      on = subst (λ (n : ℕ). (d : FedTrack) → IsWorkOn (g.P.Picks.picks c.args.sessions.now) c.args.claims.now (get_or (map fed_track vs) n d) w) (sym e) (here (λ (t : FedTrack). IsWorkOn (g.P.Picks.picks c.args.sessions.now) c.args.claims.now t w) vs c.loop-at.at v lt (subst (λ (x : TrackValue). IsWorkOn (g.P.Picks.picks c.args.sessions.now) c.args.claims.now x.track w) at c.in-Some.ensures.work));
      first = rw e c.loop-at.invariant;
    }

pub loop-at-preserved : goal.loop-at-preserved
loop-at-preserved g c =
    let v = c.index-tracks-at.result in
    before_more (λ (t : FedTrack). NoWorkOn (g.P.Picks.picks c.args.sessions.now) c.args.claims.now t) c.args.tracks.now c.loop-at.at v c.loop-at-test.true c.loop-at.invariant (subst (λ (x : TrackValue). NoWorkOn (g.P.Picks.picks c.args.sessions.now) c.args.claims.now x.track) c.index-tracks-at.is (c.in-None.ensures.work))

pub returns : goal.returns
returns g c = all_of (λ (t : FedTrack). NoWorkOn (g.P.Picks.picks c.args.sessions.now) c.args.claims.now t) c.args.tracks.now c.loop-at.at c.loop-at-test.false c.loop-at.invariant
