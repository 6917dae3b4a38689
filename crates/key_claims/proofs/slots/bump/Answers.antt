use Rattle.key_claims.proofs.Revokes.{bumps}
use Rattle.key_claims.proofs.slots.bump.Goals as goal

pub returns : goal.returns
returns c = bumps c.args.generations.now.items c.args.at c.index_mut-known.result.now c.requires c.index_mut-known.ensures.value
