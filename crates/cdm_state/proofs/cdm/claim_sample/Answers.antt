use Rattle.std.proofs.Common.{◌≡◌, ◌∙◌, List, Some, None, ap, sym, subst}
use Rattle.std.specs.Prelude.{filter}
use Rattle.key_claims.specs.TracksState.{ClaimState, FedTrack, TracksState}
use Rattle.key_claims.specs.Claims.{is_other}
use Rattle.key_claims.specs.Contract.{AreBelow, claimed}
use Rattle.cdm_state.proofs.TrackLists.{no_track}
use Rattle.cdm_state.proofs.Revoking.{taken_back}
use Rattle.cdm_state.proofs.cdm.claim_sample.Goals as goal

some_is_there : {A : Type 0} (x : A) → Some x ≡ None → ⊥
some_is_there x e = cc

pub kid_of-requires : goal.kid_of-requires
kid_of-requires c = λ none. (let x = c.in_ok-claim.ensures.ok.holds no_track in some_is_there x.protect (sym x.protected ∙ none))

pub returns-in-Err-clause-err : goal.returns-in-Err-clause-err
returns-in-Err-clause-err c =
    let old = c.args.tracks.now in
    let claim = c.in_ok-claim.claim in
    let ok = c.in_ok-claim.ensures.ok in
    let x = ok.holds no_track in
    let back : filter (is_other claim.place) c.claim.new.self.claims ≡ old.claims = ap (λ (cs : List ClaimState). filter (is_other claim.place) cs) x.added ∙ taken_back old.claims (claimed claim x.protect.kid) (subst (λ n. AreBelow n old.claims) (sym x.place_) c.requires) in
    c.give_up.ensures ∙ (ap (λ (ts : List FedTrack). let s : TracksState = record { tracks = ts; claims = filter (is_other claim.place) c.claim.new.self.claims } in s) ok.tracks ∙ ap (λ (cs : List ClaimState). let s : TracksState = record { tracks = old.tracks; claims = cs } in s) back)
