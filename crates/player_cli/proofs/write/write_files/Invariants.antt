use Rattle.player_cli.specs.Written.{FilesSoFar}
use Rattle.player_cli.proofs.write.write_files.Given as goal

abbrev pub invariant-files : goal.invariant-files
invariant-files g l = FilesSoFar (g.S.Shelf.state l.fn.shelf) (g.S.Shelf.state l.shelf) l.files l.i
