use Rattle.std.proofs.Common.{◌≡◌, ◌∙◌, true, false, sym, subst}
use Rattle.key_claims.specs.TracksState.{FedTrack}
use Rattle.key_claims.specs.TrackValue.{TrackValue}
use Rattle.key_claims.specs.Choice.{is_unkeyed}
use Rattle.key_claims.proofs.Lists.{here, before_more, all_of, within}
use Rattle.key_claims.proofs.choice.find_unkeyed.Goals as goal

pub returns-then-is_unkeyed : goal.returns-then-is_unkeyed
returns-then-is_unkeyed g c =
    let vs = c.args.tracks.now in
    let v = c.index-tracks-at.result in
    let at = c.index-tracks-at.is in
    record {
      within = within vs c.loop-at.at c.loop-at-test.true;
      on = here (λ (t : FedTrack). is_unkeyed (g.P.Picks.picks c.args.sessions.now) c.args.claims.now t ≡ true) vs c.loop-at.at v c.loop-at-test.true (subst (λ (x : TrackValue). is_unkeyed (g.P.Picks.picks c.args.sessions.now) c.args.claims.now x.track ≡ true) at (sym c.is_unkeyed.ensures ∙ c.if-is_unkeyed.true));
      first = c.loop-at.invariant;
    }

pub loop-at-preserved : goal.loop-at-preserved
loop-at-preserved g c =
    let v = c.index-tracks-at.result in
    before_more (λ (t : FedTrack). is_unkeyed (g.P.Picks.picks c.args.sessions.now) c.args.claims.now t ≡ false) c.args.tracks.now c.loop-at.at v c.loop-at-test.true c.loop-at.invariant (subst (λ (x : TrackValue). is_unkeyed (g.P.Picks.picks c.args.sessions.now) c.args.claims.now x.track ≡ false) c.index-tracks-at.is (sym c.is_unkeyed.ensures ∙ c.if-is_unkeyed.false))

pub returns : goal.returns
returns g c = all_of (λ (t : FedTrack). is_unkeyed (g.P.Picks.picks c.args.sessions.now) c.args.claims.now t ≡ false) c.args.tracks.now c.loop-at.at c.loop-at-test.false c.loop-at.invariant
