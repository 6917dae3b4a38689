use Rattle.std.proofs.Common.{map}
use Rattle.key_claims.specs.TrackValue.{fed_track}
use Rattle.key_claims.proofs.Fitting.{fits_filter, apart_filter}
use Rattle.std.specs.Prelude.{not}
use Rattle.key_claims.specs.Claims.{is_under}
use Rattle.key_claims.proofs.Sound.{once_filter}
use Rattle.key_claims.proofs.tracks.Tracks.revoke.Goals as goal

pub invariant_of-self : goal.invariant_of-self
invariant_of-self c = record { few = c.self.invariant.few; distinct = c.self.invariant.distinct; once = rw c.revoke.ensures (once_filter (λ d. not (is_under c.args.session c.args.kid.now d)) c.self.inside.claims c.self.invariant.once); fits = rw c.revoke.ensures (fits_filter (map fed_track c.self.inside.tracks.items) (λ d. not (is_under c.args.session c.args.kid.now d)) c.self.inside.claims c.self.invariant.fits); apart = rw c.revoke.ensures (apart_filter (λ d. not (is_under c.args.session c.args.kid.now d)) c.self.inside.claims c.self.invariant.apart) }
