use Rattle.player_cli.specs.Command.{seal_names}
use Rattle.player_cli.proofs.CommandEnds.{distinct_one, file_ends}
use Rattle.player_cli.proofs.seal.seal_file.Goals as goal

pub returns : goal.returns
returns g c =
    let state = g.S.Shelf.state in
    rw c.writing_end.ensures (file_ends (state c.args.shelf.now) (state c.sealed_file.new.shelf) (state c.write_files.new.shelf) (seal_names c.args.asked) _ c.write_files.result
    c.sealed_file.ensures.shelf c.in-Ok.ensures.name c.in-Ok.ensures.bytes c.write_files.ensures.ok c.write_files.ensures.err c.write_files.ensures.cause)
