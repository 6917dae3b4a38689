use Rattle.key_claims.specs.Changes.{more_out}
use Rattle.key_claims.proofs.Lists.{changed_is}
use Rattle.key_claims.proofs.tracks.put_opened.Goals as goal

pub returns-in-Some : goal.returns-in-Some
returns-in-Some c = rw c.in-Some.is (changed_is c.args.tracks.now.items c.args.at (more_out c.in-Some.bytes) c.put_opened.new.self c.index_mut-track.result.now c.requires.within c.index_mut-track.ensures.value c.put_opened.ensures)
