use Rattle.std.proofs.Common.{◌≡◌, ◌∙◌, ◌∷◌, ◌++◌, ◌+◌, [], ℕ, List, map, take, ap, sym}
use Rattle.std.proofs.lemmas.List.{map-append, take_more}
use Rattle.key_sessions.specs.declared.lost.Lost.{Lost}
use Rattle.key_sessions.specs.LostPair.{pair_of}
use Rattle.key_claims.specs.TracksState.{ClaimState, TracksState}
use Rattle.key_claims.specs.Claims.{revoked, revoke_all}
use Rattle.cdm_state.proofs.Revoking.{revoke_more}
use Rattle.cdm_state.proofs.parts.revoke_lost.Goals as goal

pub loop-key-preserved : goal.loop-key-preserved
loop-key-preserved c =
    let old = c.args.tracks.now in
    let ls = c.args.lost.now in
    let i = c.loop-key.key-index in
    let l = c.key-item.result in
    let done = map pair_of (take i ls) in
    let more : map pair_of (take (i + 1) ls) ≡ done ++ pair_of l ∷ [] = ap (λ (xs : List Lost). map pair_of xs) (take_more ls i l c.loop-key-test.true) ∙ (map-append pair_of (take i ls) (_ ∷ []) ∙ ap (λ (x : Lost). done ++ pair_of x ∷ []) (sym c.key-item.is)) in
    let now : revoke_all (map pair_of (take (i + 1) ls)) old.claims ≡ revoked l.session l.kid (revoke_all done old.claims) = ap (λ (xs : List (ℕ × List ℕ)). revoke_all xs old.claims) more ∙ revoke_more done (pair_of l) old.claims in
    c.revoke.ensures ∙ (ap (λ (s : TracksState). let t : TracksState = record s { claims = revoked l.session l.kid s.claims } in t) c.loop-key.invariant ∙ ap (λ (cs : List ClaimState). let t : TracksState = record old { claims = cs } in t) (sym now))
