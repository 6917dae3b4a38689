use Rattle.std.proofs.Common.{map}
use Rattle.std.specs.Prelude.{string_bytes}
use Rattle.player_cli.specs.Command.{command}
use Rattle.player_cli.proofs.DoneWhole.{done_whole}
use Rattle.player_cli.proofs.top.run_player.Goals as goal

pub returns-clause-complete : goal.returns-clause-complete
returns-clause-complete g c = done_whole (command (map string_bytes c.args.words.now)) c.run_words.result (g.S.Shelf.state c.args.shelf.now) (g.S.Shelf.state c.run_words.new.shelf) c.run_words.ensures
