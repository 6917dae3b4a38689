use Rattle.std.proofs.Common.{get_or, refl, ◌∙◌}
use Rattle.key_claims.specs.TracksState.{FedTrack}
use Rattle.key_claims.proofs.Lists.{here}
use Rattle.key_claims.proofs.Fitting.{fits_held, apart_held, work_protected}
use Rattle.std.proofs.Common.{ap, ◌≡◌, true, map, ◌≤◌, length, sym, subst}
use Rattle.std.specs.Prelude.{is_some}
use Rattle.eme_types.specs.declared.limits.TheConstants.{MAX_SAMPLES}
use Rattle.key_claims.specs.TrackValue.{TrackValue, fed_track}
use Rattle.key_claims.specs.Choice.{IsWorkOn, protect_at}
use Rattle.key_claims.proofs.Lists.{fed_within, unwithin, seen_here}
use Rattle.key_claims.proofs.Sound.{once_held}
use Rattle.key_claims.proofs.tracks.Tracks.claim.Goals as goal

pub hold_work-requires-clause-few : goal.hold_work-requires-clause-few
hold_work-requires-clause-few g c =
    let vs = c.self.inside.tracks.items in
    let first = rw c.deref.ensures.value at c.in-Some.ensures in
    let lt = unwithin vs c.in-Some.work.at first.within in
    subst (λ (v : TrackValue). length v.track.fed ≤ MAX_SAMPLES) (sym c.index.ensures) (fed_within vs MAX_SAMPLES c.in-Some.work.at c.index.result.now c.self.invariant.few lt)

pub hold_work-requires-clause-protected : goal.hold_work-requires-clause-protected
hold_work-requires-clause-protected g c =
    let picks = g.P.Picks.picks c.args.sessions.now in
    let vs = c.self.inside.tracks.items in
    let t = c.index.result.now.track in
    let w = c.in-Some.work in
    let first = rw c.deref.ensures.value at c.in-Some.ensures in
    let lt = unwithin vs w.at first.within in
    let on = seen_here (λ (x : FedTrack). IsWorkOn picks c.self.inside.claims x w) vs w.at t lt (first.on t) c.index.result.now in
    subst (λ (v : TrackValue). is_some (protect_at v.track.fed w.index) ≡ true) (sym c.index.ensures) (work_protected picks c.self.inside.claims (get_or vs w.at c.index.result.now).track w on)

pub invariant_of-self : goal.invariant_of-self
invariant_of-self g c =
    let picks = g.P.Picks.picks c.args.sessions.now in
    let vs = c.self.inside.tracks.items in
    let ts = map fed_track vs in
    let t = c.index.result.now.track in
    let first = rw c.deref.ensures.value at c.in-Some.ensures in
    let lt = unwithin vs c.in-Some.work.at first.within in
    let at : t ≡ get_or ts c.in-Some.work.at t = ap (λ (v : TrackValue). v.track) c.index.ensures ∙ sym (here (λ (x : FedTrack). x ≡ (get_or vs c.in-Some.work.at c.index.result.now).track) vs c.in-Some.work.at c.index.result.now lt refl t) in
    record {
      few = c.self.invariant.few;
      distinct = c.self.invariant.distinct;
      once = once_held c.hold_work.result c.self.inside.claims c.hold_work.new.claims t c.in-Some.work c.args.worker c.args.place c.hold_work.ensures.ok c.hold_work.ensures.err (rw (← c.self.view_is) at c.requires) c.self.invariant.once;
      fits = fits_held c.hold_work.result picks ts c.self.inside.claims c.hold_work.new.claims t c.in-Some.work c.args.worker c.args.place c.self.invariant.distinct first at c.hold_work.ensures.ok c.hold_work.ensures.err c.self.invariant.fits;
      apart = apart_held c.hold_work.result picks ts c.self.inside.claims c.hold_work.new.claims t c.in-Some.work c.args.worker c.args.place first at c.hold_work.ensures.ok c.hold_work.ensures.err c.self.invariant.apart;
    }
