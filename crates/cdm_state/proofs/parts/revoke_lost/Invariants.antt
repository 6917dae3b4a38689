use Rattle.std.proofs.Common.{◌≡◌, map, take}
use Rattle.key_sessions.specs.LostPair.{pair_of}
use Rattle.key_claims.specs.Claims.{revoke_all}
use Rattle.cdm_state.proofs.parts.revoke_lost.Given as goal

abbrev pub invariant-loop-key : goal.invariant-loop-key
invariant-loop-key l = l.tracks ≡ record l.fn.tracks { claims = revoke_all (map pair_of (take l.key-index l.lost)) l.fn.tracks.claims }
