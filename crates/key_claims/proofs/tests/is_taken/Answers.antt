use Rattle.key_claims.specs.declared.claim.Delivered.TheVariants.{Taken}
use Rattle.key_claims.proofs.InHand.{others_cleared}
use Rattle.key_claims.proofs.tests.is_taken.Goals as goal

pub returns-in-Taken : goal.returns-in-Taken
returns-in-Taken c = λ held other may. others_cleared Taken c.args.claim.place c.in_ok-clear.clear c.args.tracks.now c.deliver.new.self held c.in-Taken.ensures other may
