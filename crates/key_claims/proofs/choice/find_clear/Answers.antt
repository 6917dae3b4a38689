use Rattle.std.proofs.Common.{◌≡◌, ◌∙◌, true, false, sym, subst}
use Rattle.key_claims.specs.TracksState.{FedTrack}
use Rattle.key_claims.specs.TrackValue.{TrackValue}
use Rattle.key_claims.specs.Choice.{has_clear_head}
use Rattle.key_claims.proofs.Lists.{here, before_more, all_of, within}
use Rattle.key_claims.proofs.choice.find_clear.Goals as goal

pub returns-then-has_clear_head : goal.returns-then-has_clear_head
returns-then-has_clear_head c =
    let vs = c.args.tracks.now in
    let v = c.index-tracks-at.result in
    let at = c.index-tracks-at.is in
    record {
      within = within vs c.loop-at.at c.loop-at-test.true;
      on = here (λ (t : FedTrack). has_clear_head t ≡ true) vs c.loop-at.at v c.loop-at-test.true (subst (λ (x : TrackValue). has_clear_head x.track ≡ true) at (sym c.has_clear_head.ensures ∙ c.if-has_clear_head.true));
      first = c.loop-at.invariant;
    }

pub loop-at-preserved : goal.loop-at-preserved
loop-at-preserved c =
    let v = c.index-tracks-at.result in
    before_more (λ (t : FedTrack). has_clear_head t ≡ false) c.args.tracks.now c.loop-at.at v c.loop-at-test.true c.loop-at.invariant (subst (λ (x : TrackValue). has_clear_head x.track ≡ false) c.index-tracks-at.is (sym c.has_clear_head.ensures ∙ c.if-has_clear_head.false))

pub returns : goal.returns
returns c = all_of (λ (t : FedTrack). has_clear_head t ≡ false) c.args.tracks.now c.loop-at.at c.loop-at-test.false c.loop-at.invariant
