use Rattle.std.proofs.Common.{length}
use Rattle.player_cli.specs.Written.{IsWriting}
use Rattle.player_cli.proofs.write.append_text.Given as goal

abbrev pub invariant-loop-rest : goal.invariant-loop-rest
invariant-loop-rest g l = IsWriting (g.S.Shelf.state l.fn.shelf) (g.S.Shelf.state l.shelf) l.name l.text l.rest

abbrev pub decreases-loop-rest : goal.decreases-loop-rest
decreases-loop-rest g l = length l.rest
