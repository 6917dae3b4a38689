use Rattle.std.proofs.Common.{map}
use Rattle.key_claims.specs.TrackValue.{fed_track}
use Rattle.key_claims.proofs.Fitting.{fits_delivered, apart_delivered}
use Rattle.key_claims.proofs.Sound.{once_delivered}
use Rattle.key_claims.proofs.tracks.Tracks.deliver.Goals as goal

pub invariant_of-self : goal.invariant_of-self
invariant_of-self c = record {
  few = c.self.invariant.few;
  once = once_delivered c.deliver.result c.args.claim.place c.args.clear c.self.inside.claims c.deliver.new.self c.deliver.ensures c.self.invariant.once;
  distinct = c.self.invariant.distinct;
  fits = fits_delivered c.deliver.result (map fed_track c.self.inside.tracks.items) c.args.claim c.args.clear c.self.inside.claims c.deliver.new.self c.deliver.ensures c.self.invariant.fits (rw (← c.self.view_is) at c.requires.in_hand) c.requires.clear;
  apart = apart_delivered c.deliver.result c.args.claim.place c.args.clear c.self.inside.claims c.deliver.new.self c.deliver.ensures c.self.invariant.apart;
}
