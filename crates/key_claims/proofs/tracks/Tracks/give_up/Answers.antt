use Rattle.std.proofs.Common.{map}
use Rattle.key_claims.specs.TrackValue.{fed_track}
use Rattle.key_claims.proofs.Fitting.{fits_filter, apart_filter}
use Rattle.key_claims.specs.Claims.{is_other}
use Rattle.key_claims.proofs.Sound.{once_filter}
use Rattle.key_claims.proofs.tracks.Tracks.give_up.Goals as goal

pub invariant_of-self : goal.invariant_of-self
invariant_of-self c = record { few = c.self.invariant.few; distinct = c.self.invariant.distinct; once = rw c.end.ensures (once_filter (is_other c.args.claim.place) c.self.inside.claims c.self.invariant.once); fits = rw c.end.ensures (fits_filter (map fed_track c.self.inside.tracks.items) (is_other c.args.claim.place) c.self.inside.claims c.self.invariant.fits); apart = rw c.end.ensures (apart_filter (is_other c.args.claim.place) c.self.inside.claims c.self.invariant.apart) }
